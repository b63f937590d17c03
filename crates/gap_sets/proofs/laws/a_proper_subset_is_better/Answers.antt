use Rattle.gap_sets.proofs.Subsets.{cheaper}
use Rattle.gap_sets.proofs.laws.a_proper_subset_is_better.Goals as goal

pub returns : goal.returns
returns c = cheaper
