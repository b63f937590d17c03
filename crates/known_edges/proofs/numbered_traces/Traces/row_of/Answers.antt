use Rattle.known_edges.proofs.Vocabulary.{length, ap, subst, arith, AllPairs, ComesBefore, NumberedTraces, none_in_zero, ◌∙◌, Some}
use Rattle.known_edges.proofs.{Starts.row_of_number, Starts.same_number, Numbered.contained}
use Rattle.known_edges.proofs.numbered_traces.Traces.row_of.Goals as goal

pub overflow_cast-number : goal.overflow_cast-number
overflow_cast-number c = let long = ap (λ (x : NumberedTraces). length x.events) c.self.view_is in let few = c.self.invariant.numbered.few in let within = c.in-Some.ensures.0 in omega arith

pub with-requires : goal.with-requires
with-requires c = let long = ap (λ (x : NumberedTraces). length x.events) c.self.view_is in let few = c.self.invariant.numbered.few in let within = c.in-Some.ensures.0 in omega arith

pub returns-in-Some : goal.returns-in-Some
returns-in-Some c =
    let ordered = subst (λ (x : NumberedTraces). AllPairs ComesBefore x.events) c.self.view_is c.self.invariant.numbered.ordered in
    row_of_number c.args.self.now.events c.args.event c.in-Some.number c.with.result c.in-Some.ensures.1
    (λ d at. same_number c.args.self.now.events ordered d c.in-Some.number c.args.event at c.in-Some.ensures.1) c.with.ensures

pub returns-in-None : goal.returns-in-None
returns-in-None c = λ d. (λ h. absurd (none_in_zero d h), λ (x, there, same). absurd (c.in-None.ensures (contained c.args.self.now.events c.args.event (d, there ∙ ap (λ z. Some z) same))))
