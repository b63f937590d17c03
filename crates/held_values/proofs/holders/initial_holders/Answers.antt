use Rattle.std.proofs.Common.{arith}
use Rattle.held_values.proofs.PassesMade.{initial_all}
use Rattle.held_values.proofs.holders.initial_holders.Goals as goal

pub returns : goal.returns
returns c =
    initial_all c.args.program.now c.args.value c.loop-l.holders c.memory-memory.result.now c.loop-l.l c.memory-memory.ensures.value (omega (arith, c.loop-l-test.false))
    c.loop-l.invariant.long c.loop-l.invariant.so_far c.loop-l.invariant.others
