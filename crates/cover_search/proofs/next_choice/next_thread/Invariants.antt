use Rattle.cover_search.proofs.Vocabulary.{◌≡◌, ℕ, ◌<◌, None, mode_in}
use Rattle.candidate_executions.specs.Sketches.{next_read}
use Rattle.cover_search.proofs.next_choice.next_thread.Given as goal

-- the first threads have no next read
abbrev pub invariant-loop-t : goal.invariant-loop-t
invariant-loop-t l = (k : ℕ) → k < l.t → next_read l.sketch.program (mode_in l.sketch) l.sketch.chosen k ≡ None
