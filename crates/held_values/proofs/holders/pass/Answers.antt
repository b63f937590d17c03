use Rattle.held_values.proofs.PassesMade.{all_step}
use Rattle.held_values.proofs.holders.pass.Goals as goal

pub loop-t-preserved : goal.loop-t-preserved
loop-t-preserved c = all_step c.args.program.now c.args.value c.loop-t.t c.args.holders.now c.loop-t.holders c.pass_on.new.holders c.loop-t.invariant c.in_ok-pass_on.ensures
