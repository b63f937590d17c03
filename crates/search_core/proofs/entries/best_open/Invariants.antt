use Rattle.search_core.proofs.Vocabulary.{◌≡◌, ℕ, ◌<◌, Some, true, MatchOption, slice_get, Entry, is_open, IsOpenAt}
use Rattle.search_core.proofs.entries.best_open.Given as goal

-- none is open so far, or an open one is found
abbrev pub invariant-loop-place : goal.invariant-loop-place
invariant-loop-place l = MatchOption l.best ((j : ℕ) (e : Entry) → j < l.place → slice_get l.entries j ≡ Some e → is_open e ≡ true → ⊥) (λ found. IsOpenAt l.entries found.0 found.1)
