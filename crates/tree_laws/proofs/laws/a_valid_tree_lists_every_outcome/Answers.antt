use Rattle.tree_laws.proofs.ListedOutcomes.{listed, sequential_list}
use Rattle.tree_laws.proofs.laws.a_valid_tree_lists_every_outcome.Goals as goal

pub returns : goal.returns
returns c = record { each = listed; sequential = sequential_list }
