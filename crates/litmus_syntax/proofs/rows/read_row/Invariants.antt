use Rattle.litmus_syntax.proofs.Vocabulary.{◌≡◌, ◌≤◌, ◌++◌, map, length, toks, cell_view, label_view, row_labels}
use Rattle.litmus_syntax.proofs.RowLaws.{CellsSoFar}
use Rattle.litmus_syntax.proofs.rows.read_row.Given as goal

abbrev pub invariant-loop-alloc : goal.invariant-loop-alloc
invariant-loop-alloc l = record {
  cells : CellsSoFar (toks l.tokens) (map cell_view l.cells.items) (toks l.rest);
  labels : map label_view l.labels.items ≡ map label_view l.fn.labels.items ++ row_labels (map cell_view l.cells.items);
  within : length l.rest ≤ length l.tokens;
}

abbrev pub decreases-loop-alloc : goal.decreases-loop-alloc
decreases-loop-alloc l = length l.rest
