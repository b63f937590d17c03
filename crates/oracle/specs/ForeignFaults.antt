-- Why labels are no foreign run.
use Rattle.std.specs.Prelude.{◌≡◌, List}
use Rattle.tso_program.specs.declared.listing.Listing.{Listing}
use Rattle.tso_program.specs.declared.outcome.Outcome.{Outcome}
use Rattle.tso_program.specs.declared.question.Question.{Question}
use Rattle.tso_machine.specs.declared.label.Label.{Label}
use Rattle.tso_machine.specs.declared.replaying.ReplayFault.{ReplayFault}
use Rattle.tso_machine.specs.declared.replaying.ReplayFault.TheVariants as replays
use Rattle.tso_machine.specs.Faults.{ReplayFaultIs}
use Rattle.tso_machine.specs.Machine.{StoreBufferMachine, no_gaps}
use Rattle.tso_machine.specs.Outcomes.{IsShownRun, IsSequentialOutcome}
use Rattle.oracle.specs.declared.fault.ForeignFault.{ForeignFault, TheVariants.Replay, TheVariants.Sequential, TheVariants.OutOfMemory}

-- the fault of a replay as one of a foreign run; out of memory stays that
abbrev pub of_replay : ReplayFault → ForeignFault
of_replay replays.OutOfMemory = OutOfMemory
of_replay (replays.NoSuchThread n) = Replay (replays.NoSuchThread n)
of_replay (replays.AtEnd n) = Replay (replays.AtEnd n)
of_replay (replays.BufferEmpty n) = Replay (replays.BufferEmpty n)
of_replay (replays.FenceWaits n) = Replay (replays.FenceWaits n)
of_replay (replays.NotEnded n) = Replay (replays.NotEnded n)

-- a fault of the replay other than out of memory
abbrev pub IsReplayFault : Listing → List Label → ReplayFault → Type 0
IsReplayFault p labels fault = ReplayFaultIs p (StoreBufferMachine no_gaps) labels fault × (fault ≡ replays.OutOfMemory → ⊥)

-- the labels are a run with a sequential outcome, as far as it is shown
abbrev pub IsSequentialRun : Question → List Label → Type 0
IsSequentialRun q labels = (o : Outcome) × IsShownRun q (StoreBufferMachine no_gaps) labels o × IsSequentialOutcome q o

-- what a fault says of the labels; out of memory says nothing
abbrev pub ForeignFaultIs : Question → List Label → ForeignFault → Type 0
ForeignFaultIs q labels (Replay fault) = IsReplayFault q.program labels fault
ForeignFaultIs q labels Sequential = IsSequentialRun q labels
ForeignFaultIs q labels OutOfMemory = Unit {0}
