use Rattle.program_sketches.proofs.Vocabulary.{◌≡◌, ◌<◌, ℕ, None, Some, slice_get, ThreadTrace}
use Rattle.program_sketches.proofs.thread_lists.each_ends.Given as goal

-- the threads so far have come to their ends
abbrev pub invariant-loop-thread_trace : goal.invariant-loop-thread_trace
invariant-loop-thread_trace l = (k : ℕ) (c : ThreadTrace) → k < l.thread_trace-index → slice_get l.thread_traces k ≡ Some c → c.next ≡ None
