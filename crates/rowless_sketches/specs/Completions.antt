-- What becomes of a sketch: the consistent candidates that agree with it.
use Rattle.std.specs.Prelude.{◌≡◌, List}
use Rattle.tso_program.specs.declared.outcome.Outcome.{Outcome}
use Rattle.tso_program.specs.declared.shown.Shown.{Shown}
use Rattle.tso_program.specs.Shown.{show, asked}
use Rattle.tso_machine.specs.declared.label.Label.{Label}
use Rattle.tso_machine.specs.Machine.{IsRun}
use Rattle.candidate_executions.specs.declared.event.Event.{Event}
use Rattle.candidate_executions.specs.declared.event.Kind.{Kind}
use Rattle.candidate_executions.specs.Candidates.{Candidate, HasOutcome}
use Rattle.candidate_executions.specs.Consistency.{Edge}
use Rattle.candidate_executions.specs.Sketches.{IsConsistentCompletion, MustEndAs}
use Rattle.program_sketches.specs.ProgramSketches.{ProgramSketch, mode_in}
use Rattle.program_sketches.specs.Known.{HasNoCycle}

-- some consistent completion has the outcome
abbrev pub HasCompletion : ProgramSketch → Outcome → Type 0
HasCompletion s o = (c : Candidate) × IsConsistentCompletion s.program (mode_in s) s.chosen c × HasOutcome s.program (mode_in s) c o

-- each run of the mode's machine is a consistent completion with the run's outcome
abbrev pub EachRunCompletes : ProgramSketch → Type 0
EachRunCompletes s = (labels : List Label) (o : Outcome) → IsRun s.program (mode_in s) labels o → HasCompletion s o

-- the union of this kind leads from d to e in each consistent completion
abbrev pub IsEdgeOfEach : ProgramSketch → Kind → Event → Event → Type 0
IsEdgeOfEach s kind d e = (c : Candidate) → IsConsistentCompletion s.program (mode_in s) s.chosen c → Edge s.program (mode_in s) c kind d e

-- no consistent candidate agrees with all that is chosen
abbrev pub IsRefuted : ProgramSketch → Type 0
IsRefuted s = (c : Candidate) → IsConsistentCompletion s.program (mode_in s) s.chosen c → ⊥

-- this is shown of each outcome of a consistent completion
abbrev pub EndsOnlyAs : ProgramSketch → Shown → Outcome → Type 0
EndsOnlyAs s shown o = (c : Candidate) (other : Outcome) → IsConsistentCompletion s.program (mode_in s) s.chosen c → HasOutcome s.program (mode_in s) c other → o ≡ show shown other

-- the sketch must end as this outcome; where no known edges make a cycle, as no other
pub record MustEndSo (s : ProgramSketch) (shown : Shown) (o : Outcome) : Type 0 where
  pub must_end : MustEndAs (asked s.program shown) (mode_in s) s.chosen o
  pub only : HasNoCycle s → (other : Outcome) → MustEndAs (asked s.program shown) (mode_in s) s.chosen other → other ≡ o

-- there is no outcome as which the sketch must end
abbrev pub NeedNotEnd : ProgramSketch → Shown → Type 0
NeedNotEnd s shown = (o : Outcome) → MustEndAs (asked s.program shown) (mode_in s) s.chosen o → ⊥
