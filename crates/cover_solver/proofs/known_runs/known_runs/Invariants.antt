use Rattle.cover_solver.proofs.Vocabulary.{AreOf}
use Rattle.cover_solver.proofs.known_runs.known_runs.Given as goal

-- the runs so far are of the table's question
abbrev pub invariant-loop-labels : goal.invariant-loop-labels
invariant-loop-labels l = AreOf l.table.question l.known.items
