use Rattle.tree_laws.proofs.{CoveredSketches.valid_covers_by}
use Rattle.tree_laws.proofs.laws.a_valid_cover_tree_covers.Goals as goal

pub returns : goal.returns
returns c = valid_covers_by
