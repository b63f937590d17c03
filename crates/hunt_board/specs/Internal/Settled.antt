-- A receipt against what the record says of a node.
use Rattle.std.specs.Prelude.{◌≡◌}
use Rattle.search_core.specs.declared.finished.SettledEvent.{SettledEvent}
use Rattle.search_core.specs.declared.finished.SettledEvent.TheVariants as recorded
use Rattle.search_core.specs.declared.finished.Settled.{Settled}
use Rattle.hunt_board.specs.declared.settling.ReceiptEvent.{ReceiptEvent}
use Rattle.hunt_board.specs.declared.settling.ReceiptEvent.TheVariants as event
use Rattle.hunt_board.specs.declared.settling.Receipt.{Receipt}

-- the events are the same; of a split the gaps that its run passes are
abbrev pub IsSameEvent : SettledEvent → ReceiptEvent → Type 0
IsSameEvent (recorded.Split run) (event.Split passed) = run.now.passed ≡ passed
IsSameEvent recorded.Cut event.Cut = Unit {0}
IsSameEvent recorded.Confirmed event.Confirmed = Unit {0}
IsSameEvent e other = ⊥

-- the receipt says the same
pub record SaysSame (settled : Settled) (r : Receipt) : Type 0 where
  pub node : r.node ≡ settled.node
  pub seat : r.seat ≡ settled.seat
  pub event : IsSameEvent settled.event r.event
