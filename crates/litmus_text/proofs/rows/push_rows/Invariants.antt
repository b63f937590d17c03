use Rattle.litmus_text.proofs.Vocabulary.{◌≡◌, ◌++◌, map, flat_map, range_with_len, text_of, gaps_in, row_pieces, moved_labels, row_of}
use Rattle.litmus_text.proofs.rows.push_rows.Given as goal

-- the rows so far
abbrev pub invariant-loop-k : goal.invariant-loop-k
invariant-loop-k l =
    l.out.items ≡ l.initial.out.items ++ text_of (flat_map row_pieces (map (row_of l.litmus.names.locations
    (moved_labels (gaps_in l.litmus.program l.gaps) 0 l.litmus.labels) l.fenced.threads) (range_with_len 0 l.k)))
