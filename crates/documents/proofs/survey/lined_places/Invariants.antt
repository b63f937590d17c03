use Rattle.documents.proofs.Vocabulary.{◌≡◌, map, take}
use Rattle.documents.specs.Surveys.{lined_place}
use Rattle.documents.proofs.survey.lined_places.Given as goal

-- the instructions so far
abbrev pub invariant-loop-place : goal.invariant-loop-place
invariant-loop-place l = l.array ≡ map (lined_place l.lines) (take l.place-index l.places)
