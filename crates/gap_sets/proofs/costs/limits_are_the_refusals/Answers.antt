use Rattle.gap_sets.proofs.CostLimits
use Rattle.gap_sets.proofs.costs.limits_are_the_refusals.Goals as goal

pub returns : goal.returns
returns c = CostLimits.limits_are_the_refusals
