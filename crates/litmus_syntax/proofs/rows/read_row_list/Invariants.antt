use Rattle.litmus_syntax.proofs.Vocabulary.{◌≡◌, ◌++◌, map, length, toks, row_view, label_view, labels_in_rows}
use Rattle.litmus_syntax.proofs.RowLaws.{RowsSoFar}
use Rattle.litmus_syntax.proofs.rows.read_row_list.Given as goal

abbrev pub invariant-loop-alloc : goal.invariant-loop-alloc
invariant-loop-alloc l = record {
  rows : RowsSoFar l.threads (toks l.tokens) (map row_view l.rows.items) (toks l.rest);
  labels : map label_view l.labels.items ≡ map label_view l.fn.labels.items ++ labels_in_rows (map row_view l.rows.items);
}

abbrev pub decreases-loop-alloc : goal.decreases-loop-alloc
decreases-loop-alloc l = length l.rest
