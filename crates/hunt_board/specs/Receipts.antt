-- Receipts against the record of a search.
use Rattle.std.specs.Prelude.{◌≡◌, ◌≢◌, ◌⊎◌, ◌<◌, ℕ, List, Some, slice_get, length, take}
use Rattle.search_core.specs.declared.entry.Entry.{Entry}
use Rattle.search_core.specs.declared.entry.Status.{Status, TheVariants.Split, TheVariants.Cut, TheVariants.Confirmed}
use Rattle.search_core.specs.Records.{Outcome, IsOutcome}
use Rattle.hunt_board.specs.declared.settling.ReceiptEvent.{ReceiptEvent}
use Rattle.hunt_board.specs.declared.settling.ReceiptEvent.TheVariants as event
use Rattle.hunt_board.specs.declared.settling.Receipt.{Receipt}
use Rattle.hunt_board.specs.declared.fault.CloseFault.{CloseFault}
use Rattle.hunt_board.specs.declared.fault.CloseFault.TheVariants as fault
use Rattle.hunt_board.specs.Seats.{HuntView}

-- so the node was settled; of a split the event has the gaps that its run passes
abbrev pub IsReceiptEvent : Status → ReceiptEvent → Type 0
IsReceiptEvent (Split run first) (event.Split passed) = run.passed ≡ passed
IsReceiptEvent Cut event.Cut = Unit {0}
IsReceiptEvent Confirmed event.Confirmed = Unit {0}
IsReceiptEvent status e = ⊥

-- the receipt says how the node was settled, and by which seat
pub record IsReceiptOf (e : Entry) (r : Receipt) : Type 0 where
  pub node : r.node ≡ e.node
  pub seat : r.seat ≡ e.seat
  pub event : IsReceiptEvent e.status r.event

-- it is the receipt of some node of the record
abbrev pub Stands : List Entry → Receipt → Type 0
Stands entries r = (place : ℕ) × (e : Entry) × (slice_get entries place ≡ Some e) × IsReceiptOf e r

-- each receipt is of a node of the record, and no two are of one node
pub record StandApart (entries : List Entry) (receipts : List Receipt) : Type 0 where
  pub each : (i : ℕ) (r : Receipt) → slice_get receipts i ≡ Some r → Stands entries r
  pub apart : (j i : ℕ) (q r : Receipt) → j < i → slice_get receipts j ≡ Some q → slice_get receipts i ≡ Some r → q.node ≢ r.node

-- so it is, and each node of the record has a receipt
pub record NameAll (entries : List Entry) (receipts : List Receipt) : Type 0 where
  pub stand : StandApart entries receipts
  pub as_many : length receipts ≡ length entries
  pub whole : (place : ℕ) (e : Entry) → slice_get entries place ≡ Some e → (i : ℕ) × (r : Receipt) × (slice_get receipts i ≡ Some r) × IsReceiptOf e r

-- an earlier receipt is of the same node
abbrev pub IsSecondReceipt : List Receipt → ℕ → Receipt → Type 0
IsSecondReceipt receipts i r = (j : ℕ) × (q : Receipt) × (j < i) × (slice_get receipts j ≡ Some q) × (q.node ≡ r.node)

-- the first receipt that is of no node of the record, or of the same node as an earlier one
pub record IsFirstWrong (entries : List Entry) (receipts : List Receipt) (i : ℕ) : Type 0 where
  pub receipt : Receipt
  pub there : slice_get receipts i ≡ Some receipt
  pub wrong : (¬ Stands entries receipt) ⊎ IsSecondReceipt receipts i receipt
  pub before : StandApart entries (take i receipts)

-- what a search of the hunt's question and costs leaves when it is done
pub record IsOutcomeOf (h : HuntView) (o : Outcome) : Type 0 where
  pub outcome : IsOutcome o
  pub question : o.question ≡ h.question
  pub costs : o.costs ≡ h.costs

-- a fault of the receipts says that the hunt was done, and what is wrong with them
abbrev pub CloseFaultIs : HuntView → List Receipt → CloseFault → Type 0
CloseFaultIs h receipts fault.NotDone = Unit {0}
CloseFaultIs h receipts (fault.Receipt i) = (o : Outcome) × IsOutcomeOf h o × IsFirstWrong o.entries receipts i
CloseFaultIs h receipts fault.Count = (o : Outcome) × IsOutcomeOf h o × StandApart o.entries receipts × (length receipts < length o.entries)
CloseFaultIs h receipts fault.OutOfMemory = Unit {0}
