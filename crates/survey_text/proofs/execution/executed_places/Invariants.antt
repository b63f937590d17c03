use Rattle.survey_text.proofs.Vocabulary.{◌≡◌, map, place_of, take}
use Rattle.std.specs.Prelude.{filter}
use Rattle.survey_text.specs.Internal.Steps.{executes}
use Rattle.survey_text.proofs.execution.executed_places.Given as goal

-- those of the instructions so far
abbrev pub invariant-loop-visit : goal.invariant-loop-visit
invariant-loop-visit l = l.places.items ≡ filter (executes l.steps) (map place_of (take l.visit-index l.visits))
