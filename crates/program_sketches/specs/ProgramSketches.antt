-- A sketch of a program in a mode: what the code's sketch is seen as.
use Rattle.std.specs.Prelude.{ℕ, Option}
use Rattle.tso_program.specs.declared.listing.Listing.{Listing}
use Rattle.tso_machine.specs.declared.mode.Mode.{Mode}
use Rattle.tso_machine.specs.Machine as machine
use Rattle.tso_machine.specs.Modes.{machine_of_mode}
use Rattle.candidate_executions.specs.declared.access.Access.{Access}
use Rattle.candidate_executions.specs.declared.event.Event.{Event}
use Rattle.candidate_executions.specs.Traces.{Trace, trace_by}
use Rattle.candidate_executions.specs.Candidates.{access_by}
use Rattle.candidate_executions.specs.Sketches.{Sketch, empty_sketch, given_to}

-- a program, a mode, and what is chosen
pub record ProgramSketch : Type 0 where
  pub program : Listing
  pub mode : Mode
  pub chosen : Sketch

-- the machine of the mode
abbrev pub mode_in : ProgramSketch → machine.Machine
mode_in s = machine_of_mode s.program s.mode

-- what thread t does under its given values, up to its first read that has none
abbrev pub trace_in : ProgramSketch → ℕ → Trace
trace_in s t = trace_by s.program (mode_in s) (given_to s.chosen) t

-- what an event reads and writes
abbrev pub access_in : ProgramSketch → Event → Option Access
access_in s e = access_by s.program (mode_in s) (given_to s.chosen) e

-- nothing is chosen
abbrev pub nothing_chosen : Listing → Mode → ProgramSketch
nothing_chosen p mode = record { program = p; mode = mode; chosen = empty_sketch p }

-- with other choices
abbrev pub with_chosen : ProgramSketch → Sketch → ProgramSketch
with_chosen s k = record s { chosen = k }
