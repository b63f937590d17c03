use Rattle.survey_text.proofs.Vocabulary.{◌≡◌, take}
use Rattle.survey_text.specs.Visits.{unexecuted_places}
use Rattle.survey_text.proofs.visit.unexecuted_places.Given as goal

-- those of the instructions so far
abbrev pub invariant-loop-visit : goal.invariant-loop-visit
invariant-loop-visit l = l.places.items ≡ unexecuted_places (take l.visit-index l.visits)
