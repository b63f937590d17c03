use Rattle.litmus_text.proofs.Vocabulary.{◌≡◌, ◌+◌, ◌≤◌, drop, max, gaps_in, moved_labels, most_cells, MAX_FENCED_INSTRUCTIONS}
use Rattle.litmus_text.proofs.rows.most_cells.Given as goal

-- the most so far, or of those that are left
abbrev pub invariant-loop-t : goal.invariant-loop-t
invariant-loop-t l =
    (max l.most (most_cells (moved_labels (gaps_in l.litmus.program l.gaps) 0 l.litmus.labels) l.t (drop l.t l.fenced.threads))
    ≡ most_cells (moved_labels (gaps_in l.litmus.program l.gaps) 0 l.litmus.labels) 0 l.fenced.threads) × (l.most ≤ MAX_FENCED_INSTRUCTIONS + 1)
