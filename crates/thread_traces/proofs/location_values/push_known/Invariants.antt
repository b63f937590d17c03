use Rattle.thread_traces.proofs.{Gathered.HasCome, KnownValues.IsKnownBelow}
use Rattle.thread_traces.proofs.location_values.push_known.Given as goal

-- 0 has come, and the numbers and registers of the threads so far
abbrev pub invariant-loop-thread : goal.invariant-loop-thread
invariant-loop-thread l = HasCome (IsKnownBelow l.program.threads l.thread-index) l.fn.values.items l.values.items
