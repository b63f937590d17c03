use Rattle.std.proofs.Common.{◌≡◌, ℕ, List, Some, slice_get, length}
use Rattle.held_values.specs.HeldLists.{IsHeldList}
use Rattle.held_values.proofs.lists.held_values.Given as goal

-- the lists so far
abbrev pub invariant-loop-l : goal.invariant-loop-l
invariant-loop-l l = record {
  many : length l.lists.items ≡ l.l;
  made : (k : ℕ) (values : List ℕ) → slice_get l.lists.items k ≡ Some values → IsHeldList l.program k values;
}
