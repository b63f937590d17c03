use Rattle.exec_axioms.proofs.Vocabulary.{◌≡◌, ◌↔◌, ◌∙◌, true, false, IsTrue, List, Contains, Some, get_or, slice_get, take, ap, sym, subst, arc_value, take_more, take_all, slice_get-get_or, Event, Initial, IsAccess, IsWhole, given_to, machine_of_mode}
use Rattle.exec_axioms.proofs.Vocabulary.{ProgramSketch, mode_in, view_of, IsOwn, AreLastValues, IsLastWith, HasLater, NumberedTraces, HasWrites, contained, later_test, never_last, number_exact, number_own}
use Rattle.exec_axioms.proofs.LastValues.{values_all}
use Rattle.exec_axioms.proofs.sketch.Sketch.last_values.Goals as goal

pub keep_last-requires-clause-access : goal.keep_last-requires-clause-access
keep_last-requires-clause-access c =
    let events = c.events-events.result.now in
    let same = c.events-events.ensures ∙ ap (λ (x : NumberedTraces). x.events) c.deref.ensures in
    let x = get_or events c.loop-d.d (Initial 0) in
    let at = slice_get-get_or events c.loop-d.d (Initial 0) c.loop-d-test.true in
    number_own (arc_value c.self.inside.traces).thread_traces x
    (c.self.invariant.rows.of_threads x (subst (λ (es : List Event). Contains es x) same (contained events x (c.loop-d.d, at))))

pub keep_last-requires-clause-later : goal.keep_last-requires-clause-later
keep_last-requires-clause-later c =
    let same = c.events-events.ensures ∙ ap (λ (x : NumberedTraces). x.events) c.deref.ensures in
    let x = get_or c.events-events.result.now c.loop-d.d (Initial 0) in
    let at = subst (λ (es : List Event). slice_get es c.loop-d.d ≡ Some x) same (slice_get-get_or c.events-events.result.now c.loop-d.d (Initial 0) c.loop-d-test.true) in
    subst (λ (s : ProgramSketch). IsTrue c.has_any-has_later.result ↔ HasLater s x) c.self.view_is
    (later_test c.self.inside.program c.self.inside.mode (arc_value c.self.inside.traces).thread_traces c.self.inside.sources.items c.self.inside.pairs.items c.self.invariant.kept (arc_value c.self.inside.traces).events c.self.inside.rows.later c.loop-d.d x
    c.has_any-has_later.result c.self.invariant.values_first c.self.invariant.rows.all c.self.invariant.rows.later_rows at c.has_any-has_later.ensures)

pub keep_last-requires-clause-written : goal.keep_last-requires-clause-written
keep_last-requires-clause-written c none l v within last =
    let threads = (arc_value c.self.inside.traces).thread_traces in
    let events = (arc_value c.self.inside.traces).events in
    let same = c.events-events.ensures ∙ ap (λ (x : NumberedTraces). x.events) c.deref.ensures in
    let x = get_or c.events-events.result.now c.loop-d.d (Initial 0) in
    let at = subst (λ (es : List Event). slice_get es c.loop-d.d ≡ Some x) same (slice_get-get_or c.events-events.result.now c.loop-d.d (Initial 0) c.loop-d-test.true) in
    let holds = subst (λ (x : NumberedTraces). HasWrites x.thread_traces x.events c.writes-all_writes.result) c.deref-2.ensures c.writes-all_writes.ensures in
    never_last c.self.inside.program c.self.inside.mode threads c.self.inside.sources.items c.self.inside.pairs.items c.self.invariant.kept events c.writes-all_writes.result c.loop-d.d x holds
    (c.self.invariant.rows.of_threads x (contained events x (c.loop-d.d, at))) at (λ i. none (c.has-writes.ensures.1 i)) l v
    (subst (λ (s : ProgramSketch). IsLastWith s l v x) (sym c.self.view_is) last)

pub returns-then-not-keep_last : goal.returns-then-not-keep_last
returns-then-not-keep_last c = c.keep_last.ensures.differ (λ t. (let f : false ≡ true = sym c.if-not-keep_last.true ∙ t in cc)) (take c.loop-d.d c.events-events.result.now) c.loop-d.invariant

pub loop-d-preserved : goal.loop-d-preserved
loop-d-preserved c =
    let events = c.events-events.result.now in
    subst (λ (es : List Event). AreLastValues c.args.self.now c.args.shown.now (Contains es) c.keep_last.new.values) (sym (take_more events c.loop-d.d (Initial 0) c.loop-d-test.true))
    (c.keep_last.ensures.kept c.if-not-keep_last.false (take c.loop-d.d events) c.loop-d.invariant)

pub returns : goal.returns
returns c =
    let events = c.events-events.result.now in
    let same = c.events-events.ensures ∙ ap (λ (x : NumberedTraces). x.events) c.deref.ensures in
    let chosen = (view_of c.self.inside.program c.self.inside.mode (arc_value c.self.inside.traces).thread_traces c.self.inside.sources.items c.self.inside.pairs.items).chosen in
    let whole = subst (λ (s : ProgramSketch). IsWhole s.program (mode_in s) s.chosen) (sym c.self.view_is) c.requires in
    values_all c.args.self.now c.args.shown.now events c.loop-d.values
    (λ e. subst (λ (s : ProgramSketch). Contains events e ↔ IsOwn s e) c.self.view_is
    (subst (λ (es : List Event). Contains es e ↔ IsAccess c.self.inside.program (machine_of_mode c.self.inside.program c.self.inside.mode) (given_to chosen) e) (sym same)
    (number_exact c.self.inside.program c.self.inside.mode (arc_value c.self.inside.traces).thread_traces c.self.inside.sources.items c.self.inside.pairs.items c.self.invariant.kept (arc_value c.self.inside.traces).events (c.self.invariant.rows.all whole) e)))
    (subst (λ (es : List Event). AreLastValues c.args.self.now c.args.shown.now (Contains es) c.loop-d.values) (take_all c.loop-d.d events c.loop-d-test.false) c.loop-d.invariant)
