-- What holds of every search.
use Rattle.std.specs.Prelude.{◌≡◌, ◌⊎◌, ℕ, ◌<◌, ◌≤◌, ◌↔◌, true, List, Some, IfSome, slice_get}
use Rattle.gap_sets.specs.Gaps.{SetOfGaps}
use Rattle.gap_sets.specs.Order.{total, Better}
use Rattle.gap_sets.specs.Regions.{IsInRegion}
use Rattle.gap_sets.specs.declared.region.Region.{Region}
use Rattle.tso_program.specs.declared.question.Question.{Question}
use Rattle.tso_program.specs.Limits.{JumpForward}
use Rattle.tso_machine.specs.Outcomes.{Serves, LeavesOutcome, AreGapsOf, IsTheAnswer}
use Rattle.the_answer.specs.Answers.{least_cost}
use Rattle.oracle.specs.Facts.{Serving}
use Rattle.search_core.specs.declared.entry.Entry.{Entry}
use Rattle.search_core.specs.Entries.{is_live}
use Rattle.search_core.specs.Ceilings.{IsCeiling}
use Rattle.search_core.specs.States.{SearchState, IsHeldAt, IsDone}
use Rattle.search_core.specs.Events.{TakesNode, GivesBack, IsSettling}
use Rattle.search_core.specs.Histories.{IsReached}
use Rattle.search_core.specs.Work.{work_left}

-- the set lies in the region of an open or held node
pub record IsLive (entries : List Entry) (gaps : SetOfGaps) : Type 0 where
  pub place : ℕ
  pub entry : Entry
  pub there : slice_get entries place ≡ Some entry
  pub live : is_live entry ≡ true
  pub inside : IsInRegion entry.node gaps

-- the best set is this one
pub record IsBestSet (s : SearchState) (gaps : SetOfGaps) : Type 0 where
  pub served : Serving
  pub is_best : s.best ≡ Some served
  pub of_question : served.question ≡ s.question
  pub same : served.gaps ≡ gaps

-- in each state that a history reaches the answer is the best set or lies in the region of an open or held node
abbrev pub TheAnswerIsNeverLost : Type 0
TheAnswerIsNeverLost = (s : SearchState) (gaps : SetOfGaps) → IsReached s → IsTheAnswer s.question s.costs gaps → IsBestSet s gaps ⊎ IsLive s.entries gaps

-- a cheaper set serves
pub record IsUndercut (q : Question) (costs : List ℕ) (gaps : SetOfGaps) : Type 0 where
  pub other : SetOfGaps
  pub of_program : AreGapsOf q.program other
  pub serves : Serves q other
  pub cheaper : total costs other < total costs gaps

-- each set that is better than the best, or each set where there is no best, leaves an outcome that no sequential run has, is dearer than a serving one, or
-- lies in the region of an open or held node
abbrev pub NoBetterSetIsLost : Type 0
NoBetterSetIsLost = (s : SearchState) (gaps : SetOfGaps) → IsReached s → AreGapsOf s.question.program gaps → IfSome s.best (λ b. Better s.costs gaps b.gaps) →
    LeavesOutcome s.question gaps ⊎ IsUndercut s.question s.costs gaps ⊎ IsLive s.entries gaps

-- the best set of a state that is done is the answer
abbrev pub ADoneStateHasTheAnswer : Type 0
ADoneStateHasTheAnswer = (s : SearchState) → IsReached s → IsDone s → (gaps : SetOfGaps) × IsBestSet s gaps × IsTheAnswer s.question s.costs gaps

-- a seat holds one node at most
abbrev pub ASeatHoldsOneNode : Type 0
ASeatHoldsOneNode = (s : SearchState) (seat place other : ℕ) (n m : Region) → IsReached s → IsHeldAt s.entries seat place n → IsHeldAt s.entries seat other m → place ≡ other

-- a node that is split, cut or confirmed leaves less work: so a search ends
abbrev pub SettlingLessensTheWork : Type 0
SettlingLessensTheWork = (s after : SearchState) (seat : ℕ) → IsReached s → IsSettling s after seat → work_left after.entries < work_left s.entries

-- a node that is taken or given back leaves as much
abbrev pub TakingLeavesTheWork : Type 0
TakingLeavesTheWork = (s after : SearchState) (seat : ℕ) (n : Region) → TakesNode s after seat n → work_left after.entries ≡ work_left s.entries

abbrev pub GivingBackLeavesTheWork : Type 0
GivingBackLeavesTheWork = (s after : SearchState) (seat : ℕ) → GivesBack s after seat → work_left after.entries ≡ work_left s.entries

-- a cost is a ceiling exactly where it is no less than that of the answer
abbrev pub TheLeastCostIsTheLeastCeiling : Type 0
TheLeastCostIsTheLeastCeiling = (q : Question) (costs : List ℕ) (cost : ℕ) → JumpForward q.program.threads → IsCeiling q costs cost ↔ (least_cost q costs ≤ cost)
