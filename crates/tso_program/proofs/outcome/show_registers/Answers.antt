use Rattle.tso_program.proofs.Vocabulary.{arith}
use Rattle.tso_program.proofs.Kept.{threads_by}
use Rattle.tso_program.proofs.outcome.show_registers.Goals as goal

pub returns : goal.returns
returns c = threads_by c.args.shown.now c.args.registers.now c.loop-t.registers c.loop-t.invariant.long
    (λ k h. c.loop-t.invariant.shown k (omega (arith, c.len-t-end.ensures, c.loop-t-test.false)))
