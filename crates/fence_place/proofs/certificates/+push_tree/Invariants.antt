use Rattle.fence_place.proofs.Vocabulary.{◌+◌, ◌-◌, ◌*◌, length, PushesRecords}
use Rattle.fence_place.proofs.certificates.+push_tree.Given as goal

-- children follow their node
abbrev pub decreases-push_tree : goal.decreases-push_tree
decreases-push_tree l = 2 * (length l.numbers.now - l.number)

abbrev pub decreases-push_trees : goal.decreases-push_trees
decreases-push_trees l = 2 * (length l.numbers.now - l.first) + 1

-- the trees so far
abbrev pub invariant-push_trees-loop-i : goal.invariant-push_trees-loop-i
invariant-push_trees-loop-i l = PushesRecords l.finished.entries l.numbers l.first l.i l.fn.nodes.items l.nodes.items
