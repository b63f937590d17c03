use Rattle.gap_sets.proofs.LeastNames.{least_difference}
use Rattle.gap_sets.proofs.laws.the_least_difference_is_a_name.Goals as goal

pub returns : goal.returns
returns c = least_difference
