use Rattle.known_edges.proofs.Vocabulary.{◌≡◌, ◌+◌, length, IsEarly, AreBeyond, IsGrown}
use Rattle.known_edges.proofs.numbered_traces.push_thread.Given as goal

-- the thread's accesses so far have come
abbrev pub invariant-loop-i : goal.invariant-loop-i
invariant-loop-i l = record {
  grown : IsGrown (IsEarly l.t l.i) l.fn.events.items l.events.items;
  beyond : AreBeyond l.fn.events.items l.t l.events.items;
  long : length l.events.items ≡ length l.fn.events.items + l.i;
}
