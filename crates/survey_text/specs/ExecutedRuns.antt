-- Runs that together execute each instruction that some sequential run executes.
use Rattle.std.specs.Prelude.{◌≡◌, ◌↔◌, ℕ, Bool, true, List, All, Contains, IsSome, filter, map}
use Rattle.tso_program.specs.declared.listing.Listing.{Listing}
use Rattle.tso_program.specs.declared.outcome.Outcome.{Outcome}
use Rattle.tso_machine.specs.Machine.{SequentialMachine, IsRun}
use Rattle.sequential_states.specs.Executions.{IsExecutedBy}
use Rattle.documents.specs.declared.survey.ExecutedRun.{ExecutedRun}
use Rattle.survey_text.specs.declared.visit.Visit.{Visit}
use Rattle.survey_text.specs.Visits.{place_of}

-- the labels are a sequential run, and its places are those of these instructions that it executes, in their order
pub record IsExecutedRun (p : Listing) (instructions : List (ℕ × ℕ)) (run : ExecutedRun) : Type 0 where
  pub outcome : Outcome
  pub is_run : IsRun p SequentialMachine run.labels outcome
  pub is_executed : ℕ × ℕ → Bool
  pub exact : (t k : ℕ) → (is_executed (t, k) ≡ true) ↔ IsExecutedBy p run.labels t k
  pub places : run.places.items ≡ filter is_executed instructions

-- an instruction that a run executes is executed by one of these
abbrev pub IsShown : List ExecutedRun → Visit → Type 0
IsShown runs visit = IsSome visit.run → (run : ExecutedRun) × Contains runs run × Contains run.places.items (place_of visit)

-- such runs, which together execute each of these instructions that some run executes
pub record AreExecutedRuns (p : Listing) (visits : List Visit) (runs : List ExecutedRun) : Type 0 where
  pub each : All (IsExecutedRun p (map place_of visits)) runs
  pub all : All (IsShown runs) visits
