use Rattle.search_core.proofs.Vocabulary.{◌≡◌, ℕ, ◌<◌, Some, false, slice_get, Entry, is_open}
use Rattle.search_core.proofs.entries.none_open.Given as goal

-- none is open so far
abbrev pub invariant-loop-entry : goal.invariant-loop-entry
invariant-loop-entry l = (j : ℕ) (e : Entry) → j < l.entry-index → slice_get l.entries j ≡ Some e → is_open e ≡ false
