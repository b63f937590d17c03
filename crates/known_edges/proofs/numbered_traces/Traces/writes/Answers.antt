use Rattle.known_edges.proofs.Vocabulary.{subst, NumberedTraces, HasWrites}
use Rattle.known_edges.proofs.numbered_traces.Traces.writes.Goals as goal

pub returns : goal.returns
returns c = subst (λ (x : NumberedTraces). HasWrites x.thread_traces x.events c.joined_all.result) c.self.view_is
    (λ l d x at write. c.joined_all.ensures l d ((c.self.invariant.written_are l d).1 (x, at, write)))
