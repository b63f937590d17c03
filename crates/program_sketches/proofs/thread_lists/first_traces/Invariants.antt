use Rattle.program_sketches.proofs.Vocabulary.{◌≡◌, ℕ, [], Some, slice_get, length, ThreadTrace, machine_of_mode}
use Rattle.thread_traces.specs.ThreadTraces.{IsThreadTraceOf}
use Rattle.program_sketches.proofs.thread_lists.first_traces.Given as goal

-- the threads so far, with no value given
abbrev pub invariant-loop-t : goal.invariant-loop-t
invariant-loop-t l = record {
  many : length l.traces.items ≡ l.t;
  made : (k : ℕ) (c : ThreadTrace) → slice_get l.traces.items k ≡ Some c → IsThreadTraceOf l.program (machine_of_mode l.program l.mode) k [] c;
}
