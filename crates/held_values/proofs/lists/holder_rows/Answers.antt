use Rattle.held_values.proofs.ListsHeld.{rows_more}
use Rattle.held_values.proofs.lists.holder_rows.Goals as goal

pub loop-value-preserved : goal.loop-value-preserved
loop-value-preserved c =
    rows_more c.args.program.now c.args.values.now c.loop-value.table.items c.push.new.self.items c.loop-value.value-index 0 c.in_ok-holders_of.field-0
    c.loop-value-test.true c.in_ok-push.ensures.items c.loop-value.invariant c.in_ok-holders_of.ensures
