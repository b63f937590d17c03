use Rattle.litmus_reader.proofs.Vocabulary.{◌≡◌, map, take, row_view, byte_in, byte_at, code_in}
use Rattle.litmus_reader.proofs.program.code_of.Given as goal

-- the instructions of the rows so far
abbrev pub invariant-loop-row : goal.invariant-loop-row
invariant-loop-row l = l.instructions.items ≡ code_in (byte_in l.names.locations) (byte_at l.targets) (map row_view (take l.row-index l.rows)) l.thread
