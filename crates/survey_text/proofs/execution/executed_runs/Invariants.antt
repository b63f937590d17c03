use Rattle.survey_text.proofs.Executed.{AreRunsSoFar}
use Rattle.survey_text.proofs.execution.executed_runs.Given as goal

-- the runs so far show the instructions so far
abbrev pub invariant-loop-at : goal.invariant-loop-at
invariant-loop-at l = AreRunsSoFar l.program l.visits l.at l.runs.items
