use Rattle.rowless_sketches.proofs.Vocabulary.{◌∙◌, length, sym, ap, arith, ProgramSketch, trace_in, trace_accesses, no_accesses}
use Rattle.rowless_sketches.proofs.parts.Parts.accesses_of.Goals as goal

pub returns-in-Some-clause-value : goal.returns-in-Some-clause-value
returns-in-Some-clause-value c =
    c.as_slice.ensures ∙ sym (trace_accesses _ _ _ _ _ c.self.invariant c.args.t c.in-Some.thread_trace.now (sym c.in-Some.ensures)) ∙ ap (λ (s : ProgramSketch). (trace_in s c.args.t).accesses) c.self.view_is

pub returns-in-Some-clause-few : goal.returns-in-Some-clause-few
returns-in-Some-clause-few c =
    let few = (c.self.invariant.traces_are c.args.t c.in-Some.thread_trace.now (sym c.in-Some.ensures)).few in
    let same = ap length c.as_slice.ensures in
    omega arith

pub returns-in-None-clause-value : goal.returns-in-None-clause-value
returns-in-None-clause-value c = sym (no_accesses _ _ _ _ _ c.self.invariant c.args.t (sym c.in-None.ensures)) ∙ ap (λ (s : ProgramSketch). (trace_in s c.args.t).accesses) c.self.view_is

pub returns-in-None-clause-few : goal.returns-in-None-clause-few
returns-in-None-clause-few c = omega arith
