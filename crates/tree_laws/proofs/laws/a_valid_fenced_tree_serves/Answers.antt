use Rattle.tree_laws.proofs.ListedOutcomes.{fenced_tree_serves}
use Rattle.tree_laws.proofs.laws.a_valid_fenced_tree_serves.Goals as goal

pub returns : goal.returns
returns c = fenced_tree_serves
