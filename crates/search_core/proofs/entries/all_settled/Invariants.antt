use Rattle.search_core.proofs.Vocabulary.{◌≡◌, ℕ, ◌<◌, Some, false, slice_get, Entry, is_live}
use Rattle.search_core.proofs.entries.all_settled.Given as goal

-- each so far is settled
abbrev pub invariant-loop-entry : goal.invariant-loop-entry
invariant-loop-entry l = (j : ℕ) (e : Entry) → j < l.entry-index → slice_get l.entries j ≡ Some e → is_live e ≡ false
