use Rattle.thread_traces.proofs.Vocabulary.{[]}
use Rattle.thread_traces.proofs.Gathered.{HasCome, IsGatheredBelow}
use Rattle.thread_traces.proofs.location_values.gathered.Given as goal

-- the initial value has come, and what the threads so far store
abbrev pub invariant-loop-thread : goal.invariant-loop-thread
invariant-loop-thread l = HasCome (IsGatheredBelow l.program l.location l.thread-index) [] l.values.items
