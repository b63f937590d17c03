use Rattle.gap_list.proofs.Vocabulary.{◌≡◌, option_map, flat_map, range_with_len, gap_line}
use Rattle.gap_list.proofs.list.gap_list.Given as goal

-- the gaps so far have their lines
abbrev pub invariant-loop-gap : goal.invariant-loop-gap
invariant-loop-gap l = l.out.items ≡ flat_map (gap_line l.litmus (option_map (λ costs. costs.now) l.costs) l.lines) (range_with_len 0 l.gap)
