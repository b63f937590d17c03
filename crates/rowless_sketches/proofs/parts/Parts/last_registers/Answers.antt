use Rattle.rowless_sketches.proofs.Vocabulary.{◌<◌, ◌∙◌, ap, sym, subst, refl, length, arith, ThreadTrace, slice_get_read, ProgramSketch, trace_in, trace_last}
use Rattle.tso_program.specs.declared.action.Local.{Local}
use Rattle.rowless_sketches.proofs.parts.Parts.last_registers.Goals as goal

pub bounds-thread_traces-t : goal.bounds-thread_traces-t
bounds-thread_traces-t c =
    let there = subst (λ (s : ProgramSketch). c.args.t < length s.program.threads) (sym c.self.view_is) c.requires in
    let same = c.self.invariant.one_each in
    omega arith

pub returns : goal.returns
returns c =
    let there = subst (λ (s : ProgramSketch). c.args.t < length s.program.threads) (sym c.self.view_is) c.requires in
    let same = c.self.invariant.one_each in
    let thread_trace = slice_get_read c.self.inside.thread_traces.now (length c.self.inside.thread_traces.now) c.args.t c.index-thread_traces-t.result refl (omega arith) c.index-thread_traces-t.is in
    ap (λ (x : ThreadTrace). x.last.registers) c.trace.ensures ∙ sym (ap (λ (l : Local). l.registers) (trace_last _ _ _ _ _ c.self.invariant c.args.t c.index-thread_traces-t.result thread_trace)) ∙ ap (λ s. (trace_in s c.args.t).last.registers) c.self.view_is
