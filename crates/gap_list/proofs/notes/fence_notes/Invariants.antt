use Rattle.gap_list.proofs.Vocabulary.{◌≡◌, flat_map, range_with_len}
use Rattle.gap_list.specs.Notes.{note_part}
use Rattle.gap_list.proofs.notes.fence_notes.Given as goal

-- the gaps so far have their lines
abbrev pub invariant-loop-gap : goal.invariant-loop-gap
invariant-loop-gap l = l.out.items ≡ flat_map (note_part l.litmus l.gaps l.lines) (range_with_len 0 l.gap)
