use Rattle.litmus_reader.proofs.Vocabulary.{◌≡◌, map, take, fold, cell_view, noted, row_places}
use Rattle.litmus_reader.proofs.noted_names.note_row.Given as goal

-- what the cells so far name is noted
abbrev pub invariant-loop-thread : goal.invariant-loop-thread
invariant-loop-thread l = l.names ≡ fold noted l.initial.names (row_places (map cell_view (take l.thread l.row)))
