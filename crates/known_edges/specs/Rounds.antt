-- Related numbers and their events.
use Rattle.std.specs.Prelude.{◌≡◌, ◌≢◌, ◌<◌, ℕ, List, Some, slice_get, length}
use Rattle.std.specs.List.{AllPairs}
use Rattle.bit_rows.specs.Rows.{IsIn, RowHas}
use Rattle.candidate_executions.specs.declared.event.Event.{Event}
use Rattle.candidate_executions.specs.Consistency.{IsCycle}

-- rows relate a number of the first event to one of the second
abbrev pub AreRelated : List Event → List ℕ → Event → Event → Type 0
AreRelated events rows x y = (d : ℕ) × (e : ℕ) × (slice_get events d ≡ Some x) × (slice_get events e ≡ Some y) × RowHas rows d e

-- numbers that are related are those of events
abbrev pub HaveEvents : List Event → List ℕ → Type 0
HaveEvents events rows = (d e : ℕ) → RowHas rows d e → (d < length events) × (e < length events)

-- each number of the row is related to one of the row
abbrev pub GoesOnIn : List ℕ → ℕ → Type 0
GoesOnIn rows row = (d : ℕ) → IsIn row d → (e : ℕ) × RowHas rows d e × IsIn row e

-- related events that lead back to the first, with no event twice
pub record IsRound (events : List Event) (rows : List ℕ) (es : List Event) : Type 0 where
  pub cycle : IsCycle (AreRelated events rows) es
  pub distinct : AllPairs (λ d e. d ≢ e) es
