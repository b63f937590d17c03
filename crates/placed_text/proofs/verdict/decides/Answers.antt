use Rattle.placed_text.proofs.Decided.{by_outcome}
use Rattle.placed_text.proofs.verdict.decides.Goals as goal

pub returns-in-Ok : goal.returns-in-Ok
returns-in-Ok c = by_outcome c.args.litmus.now c.args.labels.now c.in-Ok.ended.outcome c.holds.result c.deciding_truth-deciding.result c.in-Ok.ensures.run c.holds.ensures c.deciding_truth-deciding.ensures
