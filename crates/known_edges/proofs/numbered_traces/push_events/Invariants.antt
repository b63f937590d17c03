use Rattle.known_edges.proofs.Vocabulary.{IsGrown}
use Rattle.known_edges.proofs.Accesses.{IsBelow}
use Rattle.known_edges.proofs.numbered_traces.push_events.Given as goal

-- the accesses of the threads so far have come
abbrev pub invariant-loop-t : goal.invariant-loop-t
invariant-loop-t l = IsGrown (IsBelow l.thread_traces l.t) l.fn.events.items l.events.items
