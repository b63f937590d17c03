use Rattle.cert_trees.proofs.Vocabulary.{◌≡◌, ◌++◌, length, cycle_nodes}
use Rattle.cert_trees.proofs.node.push_cycle.Given as goal

abbrev pub decreases-loop-left : goal.decreases-loop-left
decreases-loop-left l = length l.left

abbrev pub invariant-loop-left : goal.invariant-loop-left
invariant-loop-left l = l.nodes.items ++ cycle_nodes l.fn.kind l.left ≡ l.fn.nodes.items ++ cycle_nodes l.fn.kind l.events
