use Rattle.gap_list.proofs.Vocabulary.{◌≡◌, ◌++◌, flat_map, gap_and_blank, places_text}
use Rattle.gap_list.proofs.cost_lines.push_places.Given as goal

-- with the places of the gaps to come it is the whole
abbrev pub invariant-loop-gap : goal.invariant-loop-gap
invariant-loop-gap l = l.out.items ++ flat_map (gap_and_blank l.program.threads) l.gap-iterator ≡ l.initial.out.items ++ places_text l.program.threads l.gaps
