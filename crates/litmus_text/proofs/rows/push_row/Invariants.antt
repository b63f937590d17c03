use Rattle.litmus_text.proofs.Vocabulary.{◌≡◌, ◌++◌, map, range_with_len, text_of, gaps_in, bar, cell_pieces, joined_by, moved_labels, cell_of}
use Rattle.litmus_text.proofs.rows.push_row.Given as goal

-- the cells so far
abbrev pub invariant-loop-t : goal.invariant-loop-t
invariant-loop-t l =
    l.out.items ≡ l.initial.out.items ++ text_of (joined_by bar (map cell_pieces (map (cell_of l.litmus.names.locations
    (moved_labels (gaps_in l.litmus.program l.gaps) 0 l.litmus.labels) l.threads l.k) (range_with_len 0 l.t))))
