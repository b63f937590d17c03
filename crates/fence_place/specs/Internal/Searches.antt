-- What a search with an oracle needs and answers.
use Rattle.std.specs.Prelude.{◌≡◌, ◌<◌, ℕ, Bool, false, List, Some, Result, IfErr, OnOk, slice_get}
use Rattle.gap_sets.specs.declared.region.Region.{Region}
use Rattle.tso_program.specs.declared.question.Question.{Question}
use Rattle.tso_machine.specs.Outcomes.{AreGapsOf}
use Rattle.oracle.specs.declared.fault.SolveFault.{SolveFault}
use Rattle.oracle.specs.Facts.{Foreign, AreOf}
use Rattle.search_core.specs.declared.entry.Entry.{Entry}
use Rattle.search_core.specs.declared.finished.SettledEvent.{SettledEvent}
use Rattle.search_core.specs.declared.finished.SettledEvent.TheVariants as event
use Rattle.search_core.specs.Entries.{is_held_status}
use Rattle.search_core.specs.States.{SearchState, HasInHand, IsSameSearch}
use Rattle.search_core.specs.Events.{IsSettling}
use Rattle.search_core.specs.Records.{Outcome}
use Rattle.fence_place.specs.Faults.{MaySearchFail}

-- no seat holds a node
abbrev pub NothingIsHeld : SearchState → Type 0
NothingIsHeld s = (place : ℕ) (e : Entry) → slice_get s.entries place ≡ Some e → is_held_status e.status ≡ false

-- the run of a split is of the question
abbrev pub IsOfQuestion : Question → SettledEvent → Type 0
IsOfQuestion q (event.Split run) = run.now.question ≡ q
IsOfQuestion q v = Unit {0}

-- what a search for this question and these costs leaves
pub record IsSearchFor (q : Question) (costs : List ℕ) (o : Outcome) : Type 0 where
  pub of_question : o.question ≡ q
  pub of_costs : o.costs ≡ costs

-- the search is for the question, knows runs of it, and none of its seats holds a node
pub record IsAtRest (q : Question) (s : SearchState) (runs : List Foreign) : Type 0 where
  pub of_question : s.question ≡ q
  pub seats : 0 < s.seats
  pub known : AreOf q runs
  pub none_held : NothingIsHeld s

-- the search is for the question, knows runs of it, and its first seat has this node in hand
pub record IsReadyToSettle (q : Question) (s : SearchState) (runs : List Foreign) (n : Region) : Type 0 where
  pub of_question : s.question ≡ q
  pub known : AreOf q runs
  pub in_hand : HasInHand s 0 n
  pub gaps : AreGapsOf q.program n.must

-- the first seat's node is settled, and the runs that are known are of the question; or there is cause for a fault
pub record HasSettled (q : Question) (may_lack_runs : Bool) (s after : SearchState) (runs : List Foreign) (r : Result (Unit {0}) SolveFault) : Type 0 where
  pub settled : OnOk r (IsSettling s after 0)
  pub known : OnOk r (AreOf q runs)
  pub same : IsSameSearch s after
  pub fault : IfErr r (MaySearchFail may_lack_runs)
