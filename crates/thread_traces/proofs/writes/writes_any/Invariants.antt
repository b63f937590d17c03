use Rattle.thread_traces.proofs.Vocabulary.{◌≡◌, ◌<◌, ℕ, Some, slice_get, Access, ThreadTrace}
use Rattle.thread_traces.proofs.writes.writes_any.Given as goal

-- none of the threads so far writes the value to the location
abbrev pub invariant-loop-thread_trace : goal.invariant-loop-thread_trace
invariant-loop-thread_trace l = (t i : ℕ) (c : ThreadTrace) (x : Access) → t < l.thread_trace-index → slice_get l.thread_traces t ≡ Some c → slice_get c.accesses i ≡ Some x → x.location ≡ l.location → x.written ≡ Some l.value → ⊥
