use Rattle.documents.proofs.Vocabulary.{◌≡◌, map, take}
use Rattle.documents.specs.Surveys.{executed_run}
use Rattle.documents.proofs.survey.executed_runs.Given as goal

-- the runs so far
abbrev pub invariant-loop-run : goal.invariant-loop-run
invariant-loop-run l = l.array ≡ map executed_run (take l.run-index l.runs)
