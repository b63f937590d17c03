use Rattle.gap_sets.proofs.Orders.{not_itself, chained, decided}
use Rattle.gap_sets.proofs.laws.better_is_an_order.Goals as goal

pub returns-clause-irreflexive : goal.returns-clause-irreflexive
returns-clause-irreflexive c = not_itself

pub returns-clause-transitive : goal.returns-clause-transitive
returns-clause-transitive c = chained

pub returns-clause-total : goal.returns-clause-total
returns-clause-total c = decided
