use Rattle.tree_laws.proofs.BestOfEach.{the_best_of_each, at_least_the_sum}
use Rattle.tree_laws.proofs.laws.a_packing_bounds_each_set.Goals as goal

pub returns : goal.returns
returns c = record { best = the_best_of_each; cost = at_least_the_sum }
