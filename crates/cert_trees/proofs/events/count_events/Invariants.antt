use Rattle.cert_trees.proofs.Vocabulary.{◌≡◌, ◌+◌, ◌*◌, ◌≤◌, length, events_of}
use Rattle.cert_trees.proofs.events.count_events.Given as goal

abbrev pub decreases-loop-node : goal.decreases-loop-node
decreases-loop-node l = length l.left

abbrev pub invariant-loop-node : goal.invariant-loop-node
invariant-loop-node l = (l.count + length (events_of l.left) ≡ length (events_of l.nodes)) × (l.count + 3 * length l.left ≤ 3 * length l.nodes)
