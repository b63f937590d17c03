-- Whether outcomes are all that a machine shows.
use Rattle.std.specs.Prelude.{List, Contains}
use Rattle.tso_program.specs.declared.outcome.Outcome.{Outcome}
use Rattle.tso_program.specs.declared.question.Question.{Question}
use Rattle.tso_machine.specs.Machine.{Machine}
use Rattle.tso_machine.specs.Outcomes.{AllowsShown, IsShownRun}
use Rattle.cover_solver.specs.declared.completeness.Completeness.{Completeness}
use Rattle.cover_solver.specs.declared.completeness.Completeness.TheVariants.{Complete, Lacking}

-- the list has each outcome that the machine allows, or the labels are a run with another one
abbrev pub IsCompleteness : Question → Machine → List Outcome → Completeness → Type 0
IsCompleteness q mode outcomes Complete = (o : Outcome) → AllowsShown q mode o → Contains outcomes o
IsCompleteness q mode outcomes (Lacking labels) = (o : Outcome) × IsShownRun q mode labels.items o × (Contains outcomes o → ⊥)
