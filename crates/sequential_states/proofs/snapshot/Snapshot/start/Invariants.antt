use Rattle.sequential_states.proofs.Vocabulary.{◌≡◌, take, map, thread_start}
use Rattle.sequential_states.proofs.snapshot.Snapshot.start.Given as goal

abbrev pub invariant-loop-thread : goal.invariant-loop-thread
invariant-loop-thread l = l.locals.items ≡ map thread_start (take l.thread-index l.thread-items)
