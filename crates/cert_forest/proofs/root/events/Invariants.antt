use Rattle.cert_forest.proofs.Vocabulary.{[], repeat_at, access_at}
use Rattle.cert_forest.proofs.PushedTrees.{PushedEarlier}
use Rattle.cert_forest.proofs.root.events.Given as goal

abbrev pub decreases-loop-left : goal.decreases-loop-left
decreases-loop-left l = l.left

abbrev pub invariant-loop-left : goal.invariant-loop-left
invariant-loop-left l = PushedEarlier l.fn.kind l.left l.fn.nodes.items l.nodes.items l.rest (repeat_at access_at l.count [] l.bytes)
