use Rattle.rowless_sketches.proofs.Vocabulary.{◌∙◌, ◌<◌, IfSome, ap, sym, subst, length, ProgramSketch, mode_in, trace_next, past_next, no_trace}
use Rattle.candidate_executions.specs.Sketches as sketches
use Rattle.rowless_sketches.proofs.parts.Parts.next_read.Goals as goal

pub returns-in-Some-clause-value : goal.returns-in-Some-clause-value
returns-in-Some-clause-value c =
    let there = sym c.in-Some.ensures in
    (c.self.invariant.traces_are c.args.t c.in-Some.thread_trace.now there).next ∙ sym (trace_next _ _ _ _ _ c.self.invariant c.args.t c.in-Some.thread_trace.now there)
    ∙ ap (λ (s : ProgramSketch). sketches.next_read s.program (mode_in s) s.chosen c.args.t) c.self.view_is

pub returns-in-Some-clause-located : goal.returns-in-Some-clause-located
returns-in-Some-clause-located c =
    subst (λ (s : ProgramSketch). IfSome c.in-Some.thread_trace.now.next (λ location. location < length s.program.memory)) c.self.view_is (c.self.invariant.traces_are c.args.t c.in-Some.thread_trace.now (sym c.in-Some.ensures)).located

pub returns-in-None-clause-value : goal.returns-in-None-clause-value
returns-in-None-clause-value c =
    sym (past_next _ _ _ _ _ c.self.invariant c.args.t (no_trace _ _ _ _ _ c.self.invariant c.args.t (sym c.in-None.ensures)))
    ∙ ap (λ (s : ProgramSketch). sketches.next_read s.program (mode_in s) s.chosen c.args.t) c.self.view_is
