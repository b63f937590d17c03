use Rattle.hunt_board.proofs.Marks.{AreMarked}
use Rattle.hunt_board.proofs.record.check_receipts.Given as goal

abbrev pub invariant-loop-number : goal.invariant-loop-number
invariant-loop-number l = AreMarked l.finished.entries l.receipts l.named.items l.number
