use Rattle.search_core.specs.declared.ceiling.Reason.{TheVariants.Ceiling}
use Rattle.hunt_board.proofs.Vocabulary.{not_cut}
use Rattle.hunt_board.proofs.events.cut_node.Goals as goal

pub unreachable-requires : goal.unreachable-requires
unreachable-requires c = not_cut c.args.tree.now c.args.seat c.args.node.now (Ceiling c.args.ceiling) c.in-Err.field-0 c.requires.in_hand c.in-Err.ensures.fault c.requires.too_dear
