use Rattle.json_values.proofs.Vocabulary.{◌≡◌, map, quoted_gap}
use Rattle.json_values.proofs.named.gap_names.Given as goal

-- the gaps so far
abbrev pub invariant-loop-gap : goal.invariant-loop-gap
invariant-loop-gap l = l.array ≡ map (quoted_gap l.program.threads) l.yielded
