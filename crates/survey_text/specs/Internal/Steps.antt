-- What the steps of a run execute, and a run that is added for an instruction.
use Rattle.std.specs.Prelude.{◌≡◌, ◌==◌, ◌↔◌, ◌&&◌, ℕ, Bool, true, false, List, ◌++◌, All, Some, filter, map, slice_get}
use Rattle.std.specs.List.{list_any}
use Rattle.tso_program.specs.declared.listing.Listing.{Listing}
use Rattle.tso_machine.specs.declared.label.Label.{Label, TheVariants.Exec, TheVariants.Flush}
use Rattle.tso_machine.specs.declared.stepping.Step.{Step}
use Rattle.sequential_states.specs.Executions.{IsExecutedBy}
use Rattle.documents.specs.declared.survey.ExecutedRun.{ExecutedRun}
use Rattle.survey_text.specs.declared.visit.Visit.{Visit}
use Rattle.survey_text.specs.ExecutedRuns.{IsExecutedRun, IsShown}
use Rattle.survey_text.specs.Visits.{place_of}

-- whether the step executes instruction k of thread t, which is that thread's next one before it
abbrev pub is_of : Label → ℕ → Bool
is_of (Exec thread) t = thread == t
is_of (Flush thread) t = false

abbrev pub executes_at : ℕ × ℕ → Step → Bool
executes_at place step = is_of step.label place.0 && (step.before.local.place == place.1)

-- whether one of the steps does
abbrev pub executes : List Step → ℕ × ℕ → Bool
executes steps place = list_any (executes_at place) steps

-- whether two instructions are the same
abbrev pub is_same : ℕ × ℕ → ℕ × ℕ → Bool
is_same place other = (place.0 == other.0) && (place.1 == other.1)

-- whether an instruction is one of these
abbrev pub is_among : List (ℕ × ℕ) → ℕ × ℕ → Bool
is_among places place = list_any (is_same place) places

-- whether a run has an instruction
abbrev pub has_place : ℕ × ℕ → ExecutedRun → Bool
has_place place run = is_among run.places.items place

-- whether one of the runs does
abbrev pub is_shown : List ExecutedRun → Visit → Bool
is_shown runs visit = list_any (has_place (place_of visit)) runs

-- the run has these labels, and those of the instructions that it executes
pub record IsRunWith (p : Listing) (labels : List Label) (instructions : List (ℕ × ℕ)) (run : ExecutedRun) : Type 0 where
  pub labelled : run.labels ≡ labels
  pub is_executed : ℕ × ℕ → Bool
  pub exact : (t k : ℕ) → (is_executed (t, k) ≡ true) ↔ IsExecutedBy p labels t k
  pub places : run.places.items ≡ filter is_executed instructions

-- what is added to runs is such a run, if it is one, and then one of them executes this instruction, if any run does
pub record AddsRun (p : Listing) (visits : List Visit) (at : ℕ) (before after : List ExecutedRun) : Type 0 where
  pub more : List ExecutedRun
  pub longer : after ≡ before ++ more
  pub each : All (IsExecutedRun p (map place_of visits)) more
  pub shown : (visit : Visit) → slice_get visits at ≡ Some visit → IsShown after visit
