use Rattle.cover_search.proofs.Vocabulary.{◌≡◌, ℕ, ◌<◌, get_or, event_of, HasItsSource, ReadValue}
use Rattle.cover_search.proofs.next_choice.open_read.Given as goal

-- the reads so far have their sources
abbrev pub invariant-loop-read : goal.invariant-loop-read
invariant-loop-read l = (k : ℕ) (r : ReadValue) → k < l.read-index → get_or l.reads k r ≡ r → HasItsSource l.sketch (event_of r.read)
