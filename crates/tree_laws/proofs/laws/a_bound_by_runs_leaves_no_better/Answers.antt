use Rattle.tree_laws.proofs.BoundedRegions.{bounded, by_must}
use Rattle.tree_laws.proofs.laws.a_bound_by_runs_leaves_no_better.Goals as goal

pub returns : goal.returns
returns c = record { leaves = bounded; alone = by_must }
