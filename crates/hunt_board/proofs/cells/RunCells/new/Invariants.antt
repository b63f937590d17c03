use Rattle.hunt_board.proofs.Vocabulary.{◌≡◌, length}
use Rattle.hunt_board.proofs.cells.RunCells.new.Given as goal

abbrev pub invariant-loop : goal.invariant-loop
invariant-loop l = length l.cells.items ≡ l.counter
