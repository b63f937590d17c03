use Rattle.tree_laws.proofs.InOrder.{covers_in_order, gaps_in_order}
use Rattle.tree_laws.proofs.laws.children_are_judged_in_order.Goals as goal

pub returns : goal.returns
returns c = record { covers = covers_in_order; gaps = gaps_in_order }
