use Rattle.cert_trees.proofs.Vocabulary.{◌≡◌, ◌+◌, ◌≤◌, length, runs_first}
use Rattle.cert_trees.proofs.gap_walk.runs_first.Given as goal

abbrev pub decreases-loop-node : goal.decreases-loop-node
decreases-loop-node l = length l.left

abbrev pub invariant-loop-node : goal.invariant-loop-node
invariant-loop-node l = (l.count + runs_first l.left ≡ runs_first l.nodes) × (l.count + length l.left ≤ length l.nodes)
