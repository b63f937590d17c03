use Rattle.fence_place.proofs.Vocabulary.{◌≡◌, work_left, IsAtRest}
use Rattle.fence_place.proofs.searching.search.Given as goal

-- no seat holds a node between two of them
abbrev pub invariant-loop-tree : goal.invariant-loop-tree
invariant-loop-tree g l = IsAtRest (g.O.Oracle.question l.oracle) l.tree l.known.items × (l.tree.costs ≡ l.costs)

abbrev pub decreases-loop-tree : goal.decreases-loop-tree
decreases-loop-tree g l = work_left l.tree.entries
