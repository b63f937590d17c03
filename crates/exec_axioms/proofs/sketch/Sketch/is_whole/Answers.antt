use Rattle.exec_axioms.proofs.Vocabulary.{sym, subst, arc_value, ProgramSketch, mode_in, NumberedTraces, EachEnds, whole_ends, ends_whole}
use Rattle.candidate_executions.specs.Sketches as sketches
use Rattle.exec_axioms.proofs.sketch.Sketch.is_whole.Goals as goal

pub returns : goal.returns
returns c =
    let threads = (arc_value c.self.inside.traces).thread_traces in (
      λ t. subst (λ (s : ProgramSketch). sketches.IsWhole s.program (mode_in s) s.chosen) c.self.view_is
          (ends_whole c.self.inside.program c.self.inside.mode threads c.self.inside.sources.items c.self.inside.pairs.items c.self.invariant.kept
          (subst (λ (x : NumberedTraces). EachEnds x.thread_traces) c.deref.ensures (c.is_whole.ensures.0 t))),
      λ whole. c.is_whole.ensures.1 (subst (λ (x : NumberedTraces). EachEnds x.thread_traces) (sym c.deref.ensures)
          (whole_ends c.self.inside.program c.self.inside.mode threads c.self.inside.sources.items c.self.inside.pairs.items c.self.invariant.kept
          (subst (λ (s : ProgramSketch). sketches.IsWhole s.program (mode_in s) s.chosen) (sym c.self.view_is) whole))),
    )
