use Rattle.exec_axioms.proofs.Vocabulary.{◌∙◌, List, ap, sym, subst, Contains, AllPairs, arc_value, Event, IsAccess, ComesBefore, IsWhole, given_to, NumberedTraces, ProgramSketch, mode_in, access_number, contained, is_access}
use Rattle.exec_axioms.proofs.sketch.Sketch.numbered_events.Goals as goal

pub returns-clause-all : goal.returns-clause-all
returns-clause-all c = λ e is.
    let events = (arc_value c.self.inside.traces).events in
    let whole = subst (λ (s : ProgramSketch). IsWhole s.program (mode_in s) s.chosen) (sym c.self.view_is) c.requires in
    let number = access_number c.self.inside.program c.self.inside.mode (arc_value c.self.inside.traces).thread_traces c.self.inside.sources.items c.self.inside.pairs.items c.self.invariant.kept events (c.self.invariant.rows.all whole) e
    (subst (λ (s : ProgramSketch). IsAccess s.program (mode_in s) (given_to s.chosen) e) (sym c.self.view_is) is) in
    subst (λ (xs : List Event). Contains xs e) (sym (c.events.ensures ∙ ap (λ (x : NumberedTraces). x.events) c.deref.ensures)) (contained events e number)

pub returns-clause-alone : goal.returns-clause-alone
returns-clause-alone c = λ e has.
    subst (λ (s : ProgramSketch). IsAccess s.program (mode_in s) (given_to s.chosen) e) c.self.view_is
    ((is_access c.self.inside.program c.self.inside.mode (arc_value c.self.inside.traces).thread_traces c.self.inside.sources.items c.self.inside.pairs.items c.self.invariant.kept e).1
    (c.self.invariant.rows.of_threads e (subst (λ (xs : List Event). Contains xs e) (c.events.ensures ∙ ap (λ (x : NumberedTraces). x.events) c.deref.ensures) has)))

pub returns-clause-ordered : goal.returns-clause-ordered
returns-clause-ordered c =
    let whole = subst (λ (s : ProgramSketch). IsWhole s.program (mode_in s) s.chosen) (sym c.self.view_is) c.requires in
    subst (AllPairs ComesBefore) (sym (c.events.ensures ∙ ap (λ (x : NumberedTraces). x.events) c.deref.ensures)) (c.self.invariant.rows.all whole).ordered
