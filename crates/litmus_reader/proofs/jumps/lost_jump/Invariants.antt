use Rattle.litmus_reader.proofs.Vocabulary.{◌≡◌, map, drop, list_all, row_view, are_found}
use Rattle.litmus_reader.proofs.jumps.lost_jump.Given as goal

-- the jumps so far are found
abbrev pub invariant-loop-row : goal.invariant-loop-row
invariant-loop-row l = list_all (are_found l.targets 0) (map row_view l.rows) ≡ list_all (are_found l.targets 0) (map row_view (drop l.row-index l.rows))
