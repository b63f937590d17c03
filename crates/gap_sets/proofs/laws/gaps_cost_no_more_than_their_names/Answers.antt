use Rattle.gap_sets.proofs.SpreadTotals.{spread_costs_no_more}
use Rattle.gap_sets.proofs.laws.gaps_cost_no_more_than_their_names.Goals as goal

pub returns : goal.returns
returns c = spread_costs_no_more
