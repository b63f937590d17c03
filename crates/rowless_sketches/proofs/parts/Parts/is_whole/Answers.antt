use Rattle.rowless_sketches.proofs.Vocabulary.{sym, subst, ProgramSketch, mode_in, whole_ends, ends_whole}
use Rattle.candidate_executions.specs.Sketches as sketches
use Rattle.rowless_sketches.proofs.parts.Parts.is_whole.Goals as goal

pub returns : goal.returns
returns c = (
  λ t. subst (λ (s : ProgramSketch). sketches.IsWhole s.program (mode_in s) s.chosen) c.self.view_is
      (ends_whole c.self.inside.program.now c.self.inside.mode.now c.self.inside.thread_traces.now c.self.inside.sources.now c.self.inside.pairs.now c.self.invariant (c.each_ends.ensures.0 t)),
  λ whole. c.each_ends.ensures.1
      (whole_ends c.self.inside.program.now c.self.inside.mode.now c.self.inside.thread_traces.now c.self.inside.sources.now c.self.inside.pairs.now c.self.invariant
      (subst (λ (s : ProgramSketch). sketches.IsWhole s.program (mode_in s) s.chosen) (sym c.self.view_is) whole)),
)
