-- The choices that are made where they are asked for, as a list.
use Rattle.std.specs.Prelude.{◌≡◌, List, [], ◌∷◌, map}
use Rattle.candidate_executions.specs.declared.event.Event.{Event}
use Rattle.rowless_sketches.specs.Choices.{HasSource}
use Rattle.rowless_sketches.specs.ProgramSketches.{ProgramSketch}
use Rattle.rowless_sketches.specs.RowlessSketches.{AreSources}
use Rattle.cert_forest.specs.AccessId.{AccessId}
use Rattle.tree_laws.specs.CoverTrees.{event_of}
use Rattle.tree_laws.specs.declared.choice.Choice.{Choice, TheVariants.Value, TheVariants.Source, TheVariants.Order}
use Rattle.cover_judge.specs.declared.choices.Choices.{Choices, TheVariants.Values, TheVariants.Sources, TheVariants.Orders}

-- the choices, in order
abbrev pub choices_in : Choices → List Choice
choices_in (Values t values) = map (Value t) values
choices_in (Sources read sources) = map (Source read) sources.items
choices_in (Orders first second) = Order first second ∷ Order second first ∷ []

-- these choices give a read that has no source its sources, in their order
pub record AreFreeSources (s : ProgramSketch) (read : AccessId) (choices : List Choice) : Type 0 where
  pub sources : List Event
  pub are : AreSources s (event_of read) sources
  pub free : HasSource s (event_of read) → ⊥
  pub each : choices ≡ map (Source read) sources
