use Rattle.thread_traces.proofs.Vocabulary.{◌≡◌, ℕ, List, Some, slice_get, length, IsValueList}
use Rattle.thread_traces.proofs.shared_values.value_lists.Given as goal

-- the locations so far have their lists
abbrev pub invariant-loop-location : goal.invariant-loop-location
invariant-loop-location l = record {
  many : length l.lists.items ≡ l.location;
  made : (k : ℕ) (values : List ℕ) → slice_get l.lists.items k ≡ Some values → IsValueList l.program k values;
}
