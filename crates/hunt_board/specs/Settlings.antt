-- Which settlings are lawful, and what they do.
use Rattle.std.specs.Prelude.{◌≡◌, ℕ, List, Option, Some, None, MatchOption}
use Rattle.gap_sets.specs.declared.region.Region.{Region}
use Rattle.search_core.specs.Facts as facts
use Rattle.search_core.specs.Verdicts.{IsVerdictOf}
use Rattle.search_core.specs.Verdict.TheVariants as verdict
use Rattle.search_core.specs.Ceilings.{IsAboveCeiling, IsCeilingOf}
use Rattle.search_core.specs.Events.{IsBeatenBy, IsBestAfter}
use Rattle.hunt_board.specs.declared.settling.Settling.{Settling, TheVariants.Asked, TheVariants.Cut, TheVariants.Best}
use Rattle.hunt_board.specs.declared.settling.ReceiptEvent.{ReceiptEvent}
use Rattle.hunt_board.specs.declared.settling.ReceiptEvent.TheVariants as event
use Rattle.hunt_board.specs.declared.settling.Receipt.{Receipt}
use Rattle.hunt_board.specs.declared.settling.Next.{Next, TheVariants.Work, TheVariants.Done}
use Rattle.hunt_board.specs.Seats.{HuntView, SeatView, holding_node, with_best}

-- for a node, at a seat that has confirmed this best set: an oracle's verdict on what the node's sets must have; a ceiling of the hunt, which that costs more
-- than; or that is not better than the seat's best set
abbrev pub IsLawfulSettling : HuntView → Option facts.Serving → Region → Settling → Type 0
IsLawfulSettling h best n (Asked said) = IsVerdictOf h.question n.must said
IsLawfulSettling h best n (Cut ceiling) = IsCeilingOf h.question h.costs ceiling × IsAboveCeiling h.costs n.must ceiling
IsLawfulSettling h best n Best = IsBeatenBy h.costs best n.must

-- the seat holds a node for which the settling is lawful
abbrev pub MaySettle : HuntView → SeatView → Settling → Type 0
MaySettle h s how = MatchOption s.node ⊥ (λ n. IsLawfulSettling h s.best n how)

-- what becomes of the node
abbrev pub settling_event : Settling → ReceiptEvent
settling_event (Asked (verdict.Foreign run)) = event.Split run.passed
settling_event (Asked (verdict.Serves served)) = event.Confirmed
settling_event (Cut ceiling) = event.Cut
settling_event Best = event.Cut

-- the settling is by a foreign run
abbrev pub IsByRun : Settling → Type 0
IsByRun (Asked (verdict.Foreign run)) = Unit {0}
IsByRun how = ⊥

-- the best set that a seat has confirmed, before and after: a set that serves may be a new one
abbrev pub IsOwnBestAfter : List ℕ → Settling → Option facts.Serving → Option facts.Serving → Type 0
IsOwnBestAfter costs (Asked (verdict.Serves served)) before after = IsBestAfter costs served before after
IsOwnBestAfter costs how before after = after ≡ before

-- the seat after it settled its node: it holds nothing, and only its best set may be another
pub record IsSettled (h : HuntView) (how : Settling) (before after : SeatView) : Type 0 where
  pub same : after ≡ with_best (holding_node before None) after.best
  pub best : IsOwnBestAfter h.costs how before.best after.best

-- the receipt of a seat's node for the settling
pub record IsReceiptFor (s : SeatView) (how : Settling) (receipt : Receipt) : Type 0 where
  pub seat : receipt.seat ≡ s.number
  pub node : s.node ≡ Some receipt.node
  pub event : receipt.event ≡ settling_event how

-- the node that there is to work on
abbrev pub node_of : Next → Option Region
node_of (Work n) = Some n
node_of Done = None
