use Rattle.tso_program.proofs.Vocabulary.{arith}
use Rattle.tso_program.proofs.Kept.{memory_by}
use Rattle.tso_program.proofs.outcome.show_memory.Goals as goal

pub returns : goal.returns
returns c = memory_by c.args.shown.now c.args.memory.now c.loop-l.memory c.loop-l.invariant.long
    (λ k h. c.loop-l.invariant.shown k (omega (arith, c.len-l-end.ensures, c.loop-l-test.false)))
