use Rattle.documents.proofs.Vocabulary.{◌≡◌, map, range_with_len, slice_index, gap_value}
use Rattle.documents.proofs.answer.costs_array.Given as goal

-- the gaps so far
abbrev pub invariant-loop-gap : goal.invariant-loop-gap
invariant-loop-gap l = l.array ≡ map (λ gap. gap_value l.program.threads l.lines gap (slice_index l.costs gap)) (range_with_len 0 l.gap)
