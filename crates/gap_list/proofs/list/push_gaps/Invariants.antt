use Rattle.gap_list.proofs.Vocabulary.{◌≡◌, ◌++◌, flat_map, gap_part}
use Rattle.gap_list.specs.Lists.{gaps_part}
use Rattle.gap_list.proofs.list.push_gaps.Given as goal

-- with the places of the gaps to come it is the whole
abbrev pub invariant-loop-gap : goal.invariant-loop-gap
invariant-loop-gap l = l.out.items ++ flat_map (gap_part l.program.threads) l.gap-iterator ≡ l.initial.out.items ++ gaps_part l.program.threads l.gaps
