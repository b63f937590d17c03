use Rattle.litmus_text.proofs.Vocabulary.{◌≡◌, ◌++◌, map, range_with_len, text_of, bar, column_pieces, joined_by}
use Rattle.litmus_text.proofs.rows.push_header.Given as goal

-- the columns so far
abbrev pub invariant-loop-t : goal.invariant-loop-t
invariant-loop-t l = l.out.items ≡ l.initial.out.items ++ text_of (joined_by bar (map column_pieces (range_with_len 0 l.t)))
