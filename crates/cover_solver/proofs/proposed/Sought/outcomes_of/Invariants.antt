use Rattle.cover_solver.specs.Sought.{question_of, machine_of}
use Rattle.cover_solver.proofs.ProposedRuns.{HaveOutcomesBut}
use Rattle.cover_solver.proofs.proposed.Sought.outcomes_of.Given as goal

-- the runs so far have the outcomes so far
abbrev pub invariant-loop-labels : goal.invariant-loop-labels
invariant-loop-labels l = HaveOutcomesBut (question_of l.self) (machine_of l.self) l.runs l.labels-iterator l.outcomes.items
