-- What a seat is after its worker shared what it knows, and which runs split a node.
use Rattle.std.specs.Prelude.{◌≡◌}
use Rattle.gap_sets.specs.declared.region.Region.{Region}
use Rattle.tso_program.specs.declared.question.Question.{Question}
use Rattle.oracle.specs.declared.oracle.Verdict.TheVariants as verdict
use Rattle.oracle.specs.Facts as facts
use Rattle.oracle.specs.Verdicts.{IsVerdictOf}
use Rattle.hunt_board.specs.Seats.{HuntView, SeatView, IsOf}

-- the seat is of the hunt, and its number, its node and its best set are as before
pub record HasShared (h : HuntView) (before after : SeatView) : Type 0 where
  pub of : IsOf h after
  pub number : after.number ≡ before.number
  pub node : after.node ≡ before.node
  pub best : after.best ≡ before.best

-- an oracle might give this run for the node: it is a foreign run of the question that passes no gap which the node's sets must have
abbrev pub CanSplit : Question → Region → facts.Foreign → Type 0
CanSplit q n run = IsVerdictOf q n.must (verdict.Foreign run)
