use Rattle.cert_trees.proofs.Vocabulary.{◌≡◌, length, cycle_end}
use Rattle.cert_trees.proofs.events.cycle_end.Given as goal

abbrev pub decreases-loop-node : goal.decreases-loop-node
decreases-loop-node l = length l.left

abbrev pub invariant-loop-node : goal.invariant-loop-node
invariant-loop-node l = cycle_end l.left ≡ cycle_end l.nodes
