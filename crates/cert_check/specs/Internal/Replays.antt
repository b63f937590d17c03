-- Replays of a certificate's runs.
use Rattle.std.specs.Prelude.{◌≡◌, ◌≢◌, ℕ, List, Contains}
use Rattle.std.specs.Borrow.{Bor}
use Rattle.std.specs.List.{AllZip}
use Rattle.std.specs.declared.cmp.Ordering.{Ordering}
use Rattle.gap_sets.specs.Gaps.{SetOfGaps}
use Rattle.tso_program.specs.declared.listing.Listing.{Listing}
use Rattle.tso_program.specs.declared.outcome.Outcome.{Outcome}
use Rattle.tso_program.specs.declared.question.Question.{Question}
use Rattle.tso_program.specs.Ordered.{outcome_cmp}
use Rattle.tso_machine.specs.declared.label.Label.{Label}
use Rattle.tso_machine.specs.declared.label.Model.{Model}
use Rattle.tso_machine.specs.declared.replaying.ReplayFault.{ReplayFault}
use Rattle.tso_machine.specs.declared.replaying.ReplayFault.TheVariants as replays
use Rattle.tso_machine.specs.Machine.{Machine}
use Rattle.tso_machine.specs.Modes.{unfenced, ArePassed}
use Rattle.tso_machine.specs.Outcomes.{ArePassedNames, IsShownRun}
use Rattle.cert_check.specs.declared.fault.RunsFault.{RunsFault}
use Rattle.cert_check.specs.declared.fault.RunsFault.TheVariants as why
use Rattle.cert_check.specs.Faults.{IsRunOf, IsFirstWithout}

-- each of the runs leaves the outcome of its number, as far as it is shown, and passes the gaps of its number
pub record AreReplaysOf (q : Question) (model : Model) (runs : List (List Label)) (outcomes : List Outcome) (passed : List SetOfGaps) : Type 0 where
  pub are_runs : AllZip (IsShownRun q (unfenced model)) runs outcomes
  pub are_passed : AllZip (ArePassed q.program (unfenced model)) runs passed

-- the order of outcomes that are borrowed
abbrev pub borrowed_cmp : Bor Outcome → Bor Outcome → Ordering
borrowed_cmp a b = outcome_cmp a.now b.now

-- the outcome is not in the list
abbrev pub IsOutside : List Outcome → Outcome → Type 0
IsOutside list o = Contains list o → ⊥

-- the first that is not a run; out of memory says nothing
abbrev pub RunsFaultIs : Listing → Model → List (List Label) → RunsFault → Type 0
RunsFaultIs p model runs (why.NoRun number) = IsFirstWithout (IsRunOf p (unfenced model)) runs number
RunsFaultIs p model runs why.OutOfMemory = Unit {0}

-- the labels of this number are no run of the machine; out of memory says nothing
abbrev pub IsNoRunAt : Listing → Machine → List Label → ℕ → RunsFault → Type 0
IsNoRunAt p machine labels number (why.NoRun n) = (n ≡ number) × (IsRunOf p machine labels → ⊥)
IsNoRunAt p machine labels number why.OutOfMemory = Unit {0}

-- the fault of the run of this number, from that of its replay: out of memory stays that, every other says that there is no run
abbrev pub IsFaultFrom : ReplayFault → ℕ → RunsFault → Type 0
IsFaultFrom fault number (why.NoRun n) = (n ≡ number) × (fault ≢ replays.OutOfMemory)
IsFaultFrom fault number why.OutOfMemory = fault ≡ replays.OutOfMemory

-- each of the runs passes the names of its number, with no gap fenced
abbrev pub HavePassed : Question → List (List Label) → List SetOfGaps → Type 0
HavePassed q runs passed = AllZip (ArePassedNames q) runs passed
