use Rattle.tree_laws.proofs.TiesApart.{ties_change_no_cover}
use Rattle.tree_laws.proofs.laws.ties_change_no_cover.Goals as goal

pub returns : goal.returns
returns c = ties_change_no_cover
