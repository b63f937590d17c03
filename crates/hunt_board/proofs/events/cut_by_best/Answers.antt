use Rattle.hunt_board.proofs.Refusals.{cut_or_not}
use Rattle.hunt_board.proofs.events.cut_by_best.Goals as goal

pub returns : goal.returns
returns c = cut_or_not c.args.tree.now c.cut.new.self c.args.seat c.args.node.now c.cut.result c.requires c.cut.ensures.cut c.cut.ensures.unchanged c.cut.ensures.fault
