use Rattle.tree_laws.proofs.NoBetterLeft.{each_better_avoided, no_better_left, none_serves, root_has_every_set}
use Rattle.tree_laws.proofs.laws.a_valid_gap_tree_leaves_no_better.Goals as goal

pub returns : goal.returns
returns c = record { avoided = each_better_avoided; leaves = no_better_left; serving = none_serves; root = root_has_every_set }
