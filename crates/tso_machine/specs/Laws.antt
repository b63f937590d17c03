-- What holds of every replay and of every run.
use Rattle.tso_program.specs.Fences.{Gaps}
use Rattle.tso_program.specs.Limits.{JumpForward}
use Rattle.tso_program.specs.Listings.{code_of}
use Rattle.std.specs.Prelude.{◌≡◌, ◌≢◌, ◌↔◌, ℕ, ◌+◌, ◌*◌, ◌≤◌, true, false, List, Some, None, length}
use Rattle.gap_sets.specs.Gaps.{SetOfGaps}
use Rattle.tso_program.specs.declared.outcome.Outcome.{Outcome}
use Rattle.tso_program.specs.declared.shown.Shown.TheVariants.{All}
use Rattle.tso_program.specs.Shown.{asked}
use Rattle.tso_machine.specs.declared.label.Label.{Label}
use Rattle.tso_machine.specs.declared.label.Cause.{Cause}
use Rattle.tso_machine.specs.declared.label.Model.{Model}
use Rattle.tso_machine.specs.declared.replaying.ReplayFault.{ReplayFault}
use Rattle.tso_machine.specs.declared.replaying.ReplayFault.TheVariants as fault
use Rattle.tso_machine.specs.Machine.{no_gaps, Machine, StoreBufferMachine, State, start, step, run, IsRun, Allows, passes}
use Rattle.tso_machine.specs.Modes.{machine_of_model}
use Rattle.tso_machine.specs.Faults.{Applies, ReplayFaultIs}
use Rattle.tso_machine.specs.Outcomes.{IsShownRun, AllowsShown}
use Rattle.tso_program.specs.declared.listing.Listing.{Listing}

-- a thread of at most n instructions has at most 2n labels in a run: each instruction is executed once, and each store is flushed once
abbrev pub EveryRunIsShort : Type 0
EveryRunIsShort = (p : Listing) (mode : Machine) (labels : List Label) (o : Outcome) (n : ℕ) → JumpForward p.threads →
    ((t : ℕ) → length (code_of p.threads t) ≤ n) → IsRun p mode labels o → length labels ≤ length p.threads * (n + n)

-- no fault but out of memory fits a run
abbrev pub RunsHaveNoFault : Type 0
RunsHaveNoFault = (p : Listing) (mode : Machine) (labels : List Label) (o : Outcome) (why : ReplayFault) →
    IsRun p mode labels o → ReplayFaultIs p mode labels why → why ≡ fault.OutOfMemory

-- at a state that steps lead to, a step to which a cause applies is not possible
abbrev pub CausesStopSteps : Type 0
CausesStopSteps = (p : Listing) (mode : Machine) (labels : List Label) (s : State) (cause : Cause) (label : Label) →
    run p mode (start p) labels ≡ Some s → Applies p mode s cause label → step p mode s label ≡ None

-- two faults that both fit a replay are the same, unless one is out of memory
abbrev pub TheFirstReplayFaultIsUnique : Type 0
TheFirstReplayFaultIsUnique = (p : Listing) (gaps : SetOfGaps) (model : Model) (labels : List Label) (why other : ReplayFault) →
    why ≢ fault.OutOfMemory → other ≢ fault.OutOfMemory →
    ReplayFaultIs p (machine_of_model p gaps model) labels why → ReplayFaultIs p (machine_of_model p gaps model) labels other → why ≡ other

-- steps that are possible with no gap fenced are possible with others fenced, to the same state, exactly where they pass none of those
abbrev pub FencesAreAvoided : Type 0
FencesAreAvoided = (p : Listing) (gaps : Gaps) (labels : List Label) (last : State) → run p (StoreBufferMachine no_gaps) (start p) labels ≡ Some last →
    (run p (StoreBufferMachine gaps) (start p) labels ≡ Some last)
    ↔ ((t k : ℕ) → gaps t k ≡ true → passes p (StoreBufferMachine no_gaps) (start p) labels t k ≡ false)

-- where everything is shown, a run shows its outcome
abbrev pub AllShownAreTheRuns : Type 0
AllShownAreTheRuns = (p : Listing) (mode : Machine) (labels : List Label) (o : Outcome) → IsShownRun (asked p All) mode labels o ↔ IsRun p mode labels o

-- so what a machine's runs show are its outcomes
abbrev pub AllShownAreTheOutcomes : Type 0
AllShownAreTheOutcomes = (p : Listing) (mode : Machine) (o : Outcome) → AllowsShown (asked p All) mode o ↔ Allows p mode o
