use Rattle.tree_laws.proofs.Regions.{split_loses_no_set}
use Rattle.tree_laws.proofs.laws.a_split_loses_no_set.Goals as goal

pub returns : goal.returns
returns c = split_loses_no_set
