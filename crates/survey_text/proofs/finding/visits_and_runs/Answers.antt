use Rattle.survey_text.proofs.finding.visits_and_runs.Goals as goal

pub executed_runs-requires : goal.executed_runs-requires
executed_runs-requires g c = rw c.deref.ensures.value (c.in_ok-visits.ensures.answers)
