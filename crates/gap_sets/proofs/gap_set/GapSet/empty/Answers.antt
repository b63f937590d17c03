use Rattle.gap_sets.proofs.WordSets.{gaps_of-zero}
use Rattle.gap_sets.proofs.gap_set.GapSet.empty.Goals as goal

pub returns : goal.returns
returns c = gaps_of-zero
