use Rattle.search_core.proofs.Vocabulary.{◌≡◌, ℕ, ◌<◌, Some, true, slice_get, Entry, is_held_by}
use Rattle.search_core.proofs.entries.find_held.Given as goal

-- the seat holds none so far
abbrev pub invariant-loop-place : goal.invariant-loop-place
invariant-loop-place l = (j : ℕ) (e : Entry) → j < l.place → slice_get l.entries j ≡ Some e → is_held_by l.seat e ≡ true → ⊥
