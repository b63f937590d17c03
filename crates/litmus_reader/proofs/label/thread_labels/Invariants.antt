use Rattle.litmus_reader.proofs.Vocabulary.{◌≡◌, ◌≤◌, ◌++◌, map, drop, row_view, column, labels_behind, thread_labels}
use Rattle.litmus_reader.proofs.label.thread_labels.Given as goal

-- the labels of the rows so far are there, and those of the others follow the instructions so far
abbrev pub invariant-loop-row : goal.invariant-loop-row
invariant-loop-row l = record {
  few : l.position ≤ l.row-index;
  labels : l.labels.items ++ labels_behind l.position (column (map row_view (drop l.row-index l.rows)) l.thread) ≡ thread_labels (map row_view l.rows) l.thread;
}
