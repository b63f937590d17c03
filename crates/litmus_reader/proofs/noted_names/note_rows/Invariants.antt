use Rattle.litmus_reader.proofs.Vocabulary.{◌≡◌, map, take, fold, flat_map, row_view, noted, row_places}
use Rattle.litmus_reader.proofs.noted_names.note_rows.Given as goal

-- what the rows so far name is noted
abbrev pub invariant-loop-row : goal.invariant-loop-row
invariant-loop-row l = l.names ≡ fold noted l.initial.names (flat_map row_places (map row_view (take l.row-index l.rows)))
