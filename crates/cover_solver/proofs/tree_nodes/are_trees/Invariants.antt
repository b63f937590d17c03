use Rattle.std.proofs.Common.{◌≤◌, length, drop}
use Rattle.cover_solver.specs.TreeNodes.{SpellTrees}
use Rattle.cover_solver.proofs.tree_nodes.are_trees.Given as goal

-- the nodes from here on spell so many trees
abbrev pub invariant-loop-start : goal.invariant-loop-start
invariant-loop-start l = record { within : l.start ≤ length l.nodes; spell : SpellTrees (drop l.start l.nodes) l.trees }

abbrev pub decreases-loop-start : goal.decreases-loop-start
decreases-loop-start l = l.start
