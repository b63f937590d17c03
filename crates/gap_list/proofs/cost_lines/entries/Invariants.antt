use Rattle.gap_list.proofs.Vocabulary.{◌≡◌, flat_map, range_with_len, entry_text}
use Rattle.gap_list.proofs.cost_lines.entries.Given as goal

-- the gaps so far have their lines
abbrev pub invariant-loop-gap : goal.invariant-loop-gap
invariant-loop-gap l = l.out.items ≡ flat_map (entry_text l.program.threads l.costs) (range_with_len 0 l.gap)
