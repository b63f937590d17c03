use Rattle.exec_axioms.proofs.Vocabulary.{◌≡◌, List, ℕ, Some, slice_get, ap, sym, subst, arc_value, Event, Kind, IsOfMode, KnownEdgeOfMode, ProgramSketch, mode_in, view_of, RowHas, NumberedTraces, union_rows, at_numbers, rows_of_kind}
use Rattle.exec_axioms.proofs.sketch.Sketch.has_edge.Goals as goal

pub returns-in-Some-Some : goal.returns-in-Some-Some
returns-in-Some-Some c =
    let same = ap (λ (x : NumberedTraces). x.events) c.deref.ensures in
    let to_same = ap (λ (x : NumberedTraces). x.events) c.deref-2.ensures in
    let at = subst (λ (es : List Event). slice_get es c.in-Some-Some.d ≡ Some c.args.from) same (c.in-Some-Some.ensures {u = tt}).1 in
    let to_at = subst (λ (es : List Event). slice_get es c.in-Some-Some.e ≡ Some c.args.to) to_same (c.in-Some-Some.ensures' {u = tt}).1 in
    let of_mode = subst (λ (s : ProgramSketch). IsOfMode (mode_in s) c.args.kind) (sym c.self.view_is) (c.has_union.ensures.0 c.if-not-has_union.false) in
    let parts : ProgramSketch = view_of c.self.inside.program c.self.inside.mode (arc_value c.self.inside.traces).thread_traces c.self.inside.sources.items c.self.inside.pairs.items in
    let rows = rows_of_kind c.self.inside.program c.self.inside.mode c.args.kind (arc_value c.self.inside.traces).events (λ (kind : Kind). KnownEdgeOfMode parts.program (mode_in parts) parts.chosen kind) c.self.inside.rows.main c.self.inside.rows.global of_mode
    c.self.invariant.rows.main_rows c.self.invariant.rows.global_rows in
    let both = at_numbers (arc_value c.self.inside.traces).events (KnownEdgeOfMode parts.program (mode_in parts) parts.chosen c.args.kind) (union_rows c.args.kind c.self.inside.rows.main c.self.inside.rows.global) c.in-Some-Some.d c.in-Some-Some.e c.args.from c.args.to rows at to_at in (
      λ t. subst (λ (s : ProgramSketch). KnownEdgeOfMode s.program (mode_in s) s.chosen c.args.kind c.args.from c.args.to) c.self.view_is
          (both.0 (subst (λ (xs : List ℕ). RowHas xs c.in-Some-Some.d c.in-Some-Some.e) c.of_union.ensures (c.has.ensures.0 t))),
      λ h. c.has.ensures.1 (subst (λ (xs : List ℕ). RowHas xs c.in-Some-Some.d c.in-Some-Some.e) (sym c.of_union.ensures)
          (both.1 (subst (λ (s : ProgramSketch). KnownEdgeOfMode s.program (mode_in s) s.chosen c.args.kind c.args.from c.args.to) (sym c.self.view_is) h))),
    )
