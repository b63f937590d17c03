use Rattle.conditions.proofs.Vocabulary.{◌≡◌, ◌≤◌, [], length, take, reverse, unwound}
use Rattle.conditions.proofs.writer.unwind_all.Given as goal

-- the nodes that are left give what all nodes give
abbrev pub invariant-loop-left : goal.invariant-loop-left
invariant-loop-left l =
    (l.left ≤ length l.nodes)
    × (unwound (reverse (take l.left l.nodes)) (reverse l.waiting.items) (reverse l.tokens.items) ≡ unwound (reverse l.nodes) [] (reverse l.initial.tokens.items))

abbrev pub decreases-loop-left : goal.decreases-loop-left
decreases-loop-left l = l.left
