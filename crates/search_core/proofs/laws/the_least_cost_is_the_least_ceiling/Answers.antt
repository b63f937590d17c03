use Rattle.search_core.proofs.Bounds.{least_ceiling}
use Rattle.search_core.proofs.laws.the_least_cost_is_the_least_ceiling.Goals as goal

pub returns : goal.returns
returns c = least_ceiling
