use Rattle.litmus_reader.proofs.Vocabulary.{◌≡◌, map, range_with_len, row_view, thread_labels}
use Rattle.litmus_reader.proofs.label.all_labels.Given as goal

-- the labels of the threads so far
abbrev pub invariant-loop-thread : goal.invariant-loop-thread
invariant-loop-thread l = l.labels.items ≡ map (thread_labels (map row_view l.body.rows.items)) (range_with_len 0 l.thread)
