use Rattle.known_edges.proofs.Vocabulary.{◌↔◌, IsTrue, subst, NumberedTraces, EachEnds}
use Rattle.known_edges.proofs.numbered_traces.Traces.is_whole.Goals as goal

pub returns : goal.returns
returns c = subst (λ (x : NumberedTraces). IsTrue c.self.inside.whole ↔ EachEnds x.thread_traces) c.self.view_is c.self.invariant.ends
