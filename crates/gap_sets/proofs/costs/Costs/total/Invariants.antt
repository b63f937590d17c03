use Rattle.gap_sets.proofs.Vocabulary.{◌≡◌, ◌+◌, sum_by, numbers_of_set, cost_of}
use Rattle.gap_sets.proofs.costs.Costs.total.Given as goal

abbrev pub invariant-loop-gap : goal.invariant-loop-gap
invariant-loop-gap l = l.sum + sum_by (cost_of l.costs) l.gap-iterator ≡ sum_by (cost_of l.costs) (numbers_of_set l.set)
