use Rattle.cert_check.proofs.OutcomesListed.{has_one_more}
use Rattle.cert_check.proofs.runs.in_order.Goals as goal

pub loop-outcome-preserved : goal.loop-outcome-preserved
loop-outcome-preserved c =
    has_one_more c.loop-outcome.outcomes c.insert.new.self c.outcome-item.result c.args.list.now c.loop-outcome.outcome-index c.outcome-item.result c.loop-outcome-test.true
    c.outcome-item.is c.in_ok-insert.ensures.updates c.loop-outcome.invariant
