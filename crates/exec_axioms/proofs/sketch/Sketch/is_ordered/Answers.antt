use Rattle.exec_axioms.proofs.Vocabulary.{◌≡◌, List, Contains, Some, slice_get, ap, sym, subst, inl, inr, arc_value, MatchOption-at_none, Event, NumberedTraces, ProgramSketch, no, IsOrdered, at_numbers, ordered_numbers, contained}
use Rattle.exec_axioms.proofs.sketch.Sketch.is_ordered.Goals as goal

pub returns-in-Some-Some : goal.returns-in-Some-Some
returns-in-Some-Some c =
    let same = ap (λ (x : NumberedTraces). x.events) c.deref.ensures in
    let to_same = ap (λ (x : NumberedTraces). x.events) c.deref-2.ensures in
    let at = subst (λ (es : List Event). slice_get es c.in-Some-Some.d ≡ Some c.args.first) same (c.in-Some-Some.ensures {u = tt}).1 in
    let to_at = subst (λ (es : List Event). slice_get es c.in-Some-Some.e ≡ Some c.args.second) to_same (c.in-Some-Some.ensures' {u = tt}).1 in
    let forth = at_numbers (arc_value c.self.inside.traces).events (λ d e. Contains c.self.inside.pairs.items (d, e)) c.self.inside.rows.later c.in-Some-Some.d c.in-Some-Some.e c.args.first c.args.second
    c.self.invariant.rows.later_rows at to_at in
    let back = at_numbers (arc_value c.self.inside.traces).events (λ d e. Contains c.self.inside.pairs.items (d, e)) c.self.inside.rows.later c.in-Some-Some.e c.in-Some-Some.d c.args.second c.args.first
    c.self.invariant.rows.later_rows to_at at in (
      λ t. subst (λ (s : ProgramSketch). IsOrdered s c.args.first c.args.second) c.self.view_is (elim (c.has_either.ensures.0 t) [ inl h ↦ inl (forth.0 h) | inr h ↦ inr (back.0 h) ]),
      λ h. c.has_either.ensures.1 (elim (subst (λ (s : ProgramSketch). IsOrdered s c.args.first c.args.second) (sym c.self.view_is) h) [ inl k ↦ inl (forth.1 k) | inr k ↦ inr (back.1 k) ]),
    )

pub returns-in_default : goal.returns-in_default
returns-in_default c =
    let same = ap (λ (x : NumberedTraces). x.events) c.deref-2.ensures in
    no (IsOrdered c.args.self.now c.args.first c.args.second) (λ h.
    let numbers = ordered_numbers c.self.inside.program c.self.inside.mode (arc_value c.self.inside.traces).thread_traces c.self.inside.sources.items c.self.inside.pairs.items c.self.invariant.kept (arc_value c.self.inside.traces).events c.self.invariant.values_first c.self.invariant.rows.all c.args.first c.args.second
    (subst (λ (s : ProgramSketch). IsOrdered s c.args.first c.args.second) (sym c.self.view_is) h) in
    c.in_default.ensures' {u = tt} (subst (λ (es : List Event). Contains es c.args.second) (sym same) (contained (arc_value c.self.inside.traces).events c.args.second numbers.1)))

pub returns-in_default-2 : goal.returns-in_default-2
returns-in_default-2 c =
    let same = ap (λ (x : NumberedTraces). x.events) c.deref.ensures in
    no (IsOrdered c.args.self.now c.args.first c.args.second) (λ h.
    let numbers = ordered_numbers c.self.inside.program c.self.inside.mode (arc_value c.self.inside.traces).thread_traces c.self.inside.sources.items c.self.inside.pairs.items c.self.invariant.kept (arc_value c.self.inside.traces).events c.self.invariant.values_first c.self.invariant.rows.all c.args.first c.args.second
    (subst (λ (s : ProgramSketch). IsOrdered s c.args.first c.args.second) (sym c.self.view_is) h) in
    MatchOption-at_none _ _ c.in_default.is-0 c.number_of.ensures (subst (λ (es : List Event). Contains es c.args.first) (sym same) (contained (arc_value c.self.inside.traces).events c.args.first numbers.0)))
