use Rattle.known_edges.proofs.Vocabulary.{ℕ, subst, get_or_past, NumberedTraces, IsRowOf, IsWriteAt}
use Rattle.known_edges.proofs.numbered_traces.Traces.writes_to.Goals as goal

pub returns-in-None : goal.returns-in-None
returns-in-None c = subst (λ (x : NumberedTraces). IsRowOf x.events (IsWriteAt x.thread_traces c.args.location) 0) c.self.view_is
    (subst (λ (row : ℕ). IsRowOf c.self.inside.events.items (IsWriteAt c.self.inside.thread_traces.items c.args.location) row) (get_or_past c.self.inside.written c.args.location 0 c.in-None.ensures.lookup.3)
    (c.self.invariant.written_are c.args.location))
