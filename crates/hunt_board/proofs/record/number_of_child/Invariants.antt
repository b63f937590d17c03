use Rattle.hunt_board.proofs.Vocabulary.{◌≡◌, ◌+◌, length, filter, position_from, is_free, open_gaps, number_of_child}
use Rattle.std.specs.FinSet as set
use Rattle.hunt_board.proofs.record.number_of_child.Given as goal

-- what is found among the gaps to come is found among all; so many are seen, and those are to come
abbrev pub invariant-loop-gap : goal.invariant-loop-gap
invariant-loop-gap l =
    (position_from (set.contains l.must) l.number (filter (is_free l.never) l.gap-iterator) ≡ number_of_child l.fn.passed l.never l.must)
    × (l.number + length (filter (is_free l.never) l.gap-iterator) ≡ length (open_gaps l.fn.passed l.never))
