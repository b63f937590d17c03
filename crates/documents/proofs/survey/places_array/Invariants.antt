use Rattle.documents.proofs.Vocabulary.{◌≡◌, map, take}
use Rattle.documents.specs.Surveys.{quoted_place}
use Rattle.documents.proofs.survey.places_array.Given as goal

-- the instructions so far
abbrev pub invariant-loop-place : goal.invariant-loop-place
invariant-loop-place l = l.array ≡ map quoted_place (take l.place-index l.places)
