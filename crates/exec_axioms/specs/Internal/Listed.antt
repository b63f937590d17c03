-- Events listed in order.
use Rattle.std.specs.Prelude.{◌≡◌, ℕ, List, Some, slice_get, Contains}
use Rattle.std.specs.List.{AllPairs}
use Rattle.bit_rows.specs.Rows.{IsIn}
use Rattle.candidate_executions.specs.declared.event.Event.{Event}
use Rattle.candidate_executions.specs.Events.{ComesBefore}

-- the event has a number of the row
abbrev pub HasNumberIn : List Event → ℕ → Event → Type 0
HasNumberIn events row e = (d : ℕ) × IsIn row d × (slice_get events d ≡ Some e)

-- both lists are in order, and each event of the first comes before each of the second that has a number of the row
pub record FollowInOrder (first second : List Event) (row : ℕ) : Type 0 where
  pub ordered : AllPairs ComesBefore first
  pub then_ordered : AllPairs ComesBefore second
  pub between : (d e : Event) → Contains first d → HasNumberIn second row e → ComesBefore d e
