use Rattle.litmus_reader.proofs.Vocabulary.{◌≡◌, map, drop, cell_view, are_found}
use Rattle.litmus_reader.proofs.jumps.lost_in_row.Given as goal

-- the jumps so far are found
abbrev pub invariant-loop-thread : goal.invariant-loop-thread
invariant-loop-thread l = are_found l.targets 0 (map cell_view l.row) ≡ are_found l.targets l.thread (map cell_view (drop l.thread l.row))
