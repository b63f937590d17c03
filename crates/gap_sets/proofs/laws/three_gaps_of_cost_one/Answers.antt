use Rattle.gap_sets.proofs.Examples.{three_gaps_of_cost_one}
use Rattle.gap_sets.proofs.laws.three_gaps_of_cost_one.Goals as goal

pub returns : goal.returns
returns c = three_gaps_of_cost_one
