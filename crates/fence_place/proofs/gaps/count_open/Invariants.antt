use Rattle.fence_place.proofs.Vocabulary.{◌≡◌, ◌+◌, length, filter, is_free, open_gaps}
use Rattle.fence_place.proofs.gaps.count_open.Given as goal

-- those so far, and those to come
abbrev pub invariant-loop-gap : goal.invariant-loop-gap
invariant-loop-gap l = l.count + length (filter (is_free l.never) l.gap-iterator) ≡ length (open_gaps l.fn.passed l.never)
