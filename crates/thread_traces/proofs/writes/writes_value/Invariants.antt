use Rattle.thread_traces.proofs.Vocabulary.{◌≡◌, ◌<◌, ℕ, Some, slice_get, Access}
use Rattle.thread_traces.proofs.writes.writes_value.Given as goal

-- none of the accesses so far writes the value to the location
abbrev pub invariant-loop-access : goal.invariant-loop-access
invariant-loop-access l = (i : ℕ) (x : Access) → i < l.access-index → slice_get l.accesses i ≡ Some x → x.location ≡ l.location → x.written ≡ Some l.value → ⊥
