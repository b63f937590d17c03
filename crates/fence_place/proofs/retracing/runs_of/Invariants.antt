use Rattle.fence_place.proofs.Vocabulary.{AreOf}
use Rattle.fence_place.proofs.retracing.runs_of.Given as goal

-- the runs so far are of the question
abbrev pub invariant-loop-number : goal.invariant-loop-number
invariant-loop-number l = AreOf l.finished.question l.runs.items
