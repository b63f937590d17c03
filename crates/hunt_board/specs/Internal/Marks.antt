-- Receipts that are marked off against the record of a search, one after the other.
use Rattle.std.specs.Prelude.{◌≡◌, ◌⊎◌, ◌<◌, ℕ, Bool, true, false, List, Some, slice_get, slice_set, length}
use Rattle.search_core.specs.declared.entry.Entry.{Entry}
use Rattle.hunt_board.specs.declared.settling.Receipt.{Receipt}
use Rattle.hunt_board.specs.declared.fault.CloseFault.{CloseFault}
use Rattle.hunt_board.specs.declared.fault.CloseFault.TheVariants as fault
use Rattle.hunt_board.specs.Receipts.{IsReceiptOf, Stands, StandApart, IsFirstWrong}
use Rattle.hunt_board.specs.Internal.Places.{WalkLeads}

-- the receipt is of the node to which the walk leads, whose mark is this
pub record HasMark (entries : List Entry) (r : Receipt) (marks : List Bool) (mark : Bool) : Type 0 where
  pub place : ℕ
  pub leads : WalkLeads entries r.node 0 place
  pub entry : Entry
  pub there : slice_get entries place ≡ Some entry
  pub is_receipt : IsReceiptOf entry r
  pub has : slice_get marks place ≡ Some mark

-- the receipt's node was not marked before, and is marked now
pub record IsMarked (entries : List Entry) (r : Receipt) (before after : List Bool) : Type 0 where
  pub unmarked : HasMark entries r before false
  pub marked : after ≡ slice_set before unmarked.place true

-- the receipt does not stand in the record, or its node was marked before; the marks stay
pub record IsNotMarked (entries : List Entry) (r : Receipt) (before after : List Bool) : Type 0 where
  pub why : (¬ Stands entries r) ⊎ HasMark entries r before true
  pub same : after ≡ before

-- a fault of the receipts against the record
abbrev pub RecordFaultIs : List Entry → List Receipt → CloseFault → Type 0
RecordFaultIs entries receipts fault.NotDone = ⊥
RecordFaultIs entries receipts (fault.Receipt i) = IsFirstWrong entries receipts i
RecordFaultIs entries receipts fault.Count = StandApart entries receipts × (length receipts < length entries)
RecordFaultIs entries receipts fault.OutOfMemory = Unit {0}
