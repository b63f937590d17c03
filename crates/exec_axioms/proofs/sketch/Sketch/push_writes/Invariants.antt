use Rattle.exec_axioms.proofs.Sources.{IsListed}
use Rattle.exec_axioms.proofs.Vocabulary.{IsValueWritten}
use Rattle.exec_axioms.proofs.sketch.Sketch.push_writes.Given as goal

-- the events of the numbers that are no longer left
abbrev pub invariant-loop-d : goal.invariant-loop-d
invariant-loop-d l = IsListed (IsValueWritten l.self l.value) l.events l.row l.left l.fn.sources.items l.sources.items

abbrev pub decreases-loop-d : goal.decreases-loop-d
decreases-loop-d l = l.left
