-- Why a search stops.
use Rattle.std.specs.Prelude.{List, Contains}
use Rattle.tso_program.specs.declared.outcome.Outcome.{Outcome}
use Rattle.tso_program.specs.declared.question.Question.{Question}
use Rattle.tso_machine.specs.Machine.{Machine}
use Rattle.tso_machine.specs.Outcomes.{IsShownRun}
use Rattle.cover_search.specs.declared.stop.SearchStop.{SearchStop}
use Rattle.cover_search.specs.declared.stop.SearchStop.TheVariants as stop

-- a run of the machine leaves an outcome that the list lacks, or memory is out
abbrev pub StopLacks : Question → Machine → List Outcome → SearchStop → Type 0
StopLacks q mode outcomes (stop.New run) = IsShownRun q mode run.labels.items run.outcome × (Contains outcomes run.outcome → ⊥)
StopLacks q mode outcomes stop.OutOfMemory = Unit {0}
