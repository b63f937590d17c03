use Rattle.exec_axioms.proofs.Vocabulary.{◌∙◌, ap, length, arith, registers_shown}
use Rattle.exec_axioms.proofs.sketch.Sketch.end_registers.Goals as goal

pub returns : goal.returns
returns c =
    let threads = ap length c.threads-threads.ensures.value ∙ ap (λ s. length s.program.threads) c.self.view_is in
    let many = c.loop-t.invariant.many in
    c.of.ensures ∙ registers_shown c.args.self.now c.args.shown.now c.loop-t.registers.items (omega arith) (λ k h. c.loop-t.invariant.each k (omega arith))
