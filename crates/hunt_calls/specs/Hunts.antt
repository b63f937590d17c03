-- What a script over a hunt has in hand.
use Rattle.std.specs.Prelude.{IfSome}
use Rattle.tso_machine.specs.Outcomes.{AreGapsOf}
use Rattle.hunt_board.specs.Cells.{IsInCell}
use Rattle.hunt_board.specs.Seats.{HuntView, IsOf}
use Rattle.hunt_calls.specs.declared.hunts.Hand.{Hand}

-- the seat is of the hunt, what the sets of a node that it holds must have are gaps of the hunt's program, and the run was posted in a cell of the hunt
pub record IsSound (h : HuntView) (hand : Hand) : Type 0 where
  pub of : IsOf h hand.seat
  pub gaps : IfSome hand.seat.node (λ n. AreGapsOf h.question.program n.must)
  pub posted : IfSome hand.posted (IsInCell h.cells)
