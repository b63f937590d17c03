-- What a search that is done leaves.
use Rattle.std.specs.Prelude.{◌≡◌, ℕ, List, Some, slice_get}
use Rattle.tso_program.specs.declared.question.Question.{Question}
use Rattle.oracle.specs.Facts.{Foreign, Serving}
use Rattle.search_core.specs.declared.entry.Entry.{Entry}
use Rattle.search_core.specs.declared.entry.Status.{Status, TheVariants.Split, TheVariants.Cut, TheVariants.Confirmed}
use Rattle.search_core.specs.declared.finished.SettledEvent.{SettledEvent}
use Rattle.search_core.specs.declared.finished.SettledEvent.TheVariants as event
use Rattle.search_core.specs.declared.finished.Settled.{Settled}
use Rattle.search_core.specs.States.{SearchState, IsDone}
use Rattle.search_core.specs.Histories.{IsReached}

-- the question, the costs, the nodes with what became of them, and the answer
pub record Outcome : Type 0 where
  pub question : Question
  pub costs : List ℕ
  pub seats : ℕ
  pub entries : List Entry
  pub served : Serving

abbrev pub finished_state : Outcome → SearchState
finished_state f = record { question = f.question; costs = f.costs; seats = f.seats; entries = f.entries; best = Some f.served }

-- some history ends so, and no node is open or held
pub record IsOutcome (f : Outcome) : Type 0 where
  pub reached : IsReached (finished_state f)
  pub done : IsDone (finished_state f)

abbrev pub IsEventOf : Status → SettledEvent → Type 0
IsEventOf (Split f first) (event.Split run) = run.now ≡ f
IsEventOf Cut event.Cut = Unit {0}
IsEventOf Confirmed event.Confirmed = Unit {0}
IsEventOf status e = ⊥

-- what the record says of an entry
pub record IsSettledAs (e : Entry) (settled : Settled) : Type 0 where
  pub same_node : settled.node ≡ e.node
  pub same_seat : settled.seat ≡ e.seat
  pub is_event : IsEventOf e.status settled.event

-- the place of the first child of the split node of this number
abbrev pub IsFirstChild : List Entry → ℕ → ℕ → Type 0
IsFirstChild entries number first = (e : Entry) × (slice_get entries number ≡ Some e) × (f : Foreign) × (e.status ≡ Split f first)
