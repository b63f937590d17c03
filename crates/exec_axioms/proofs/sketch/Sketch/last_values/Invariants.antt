use Rattle.exec_axioms.proofs.Vocabulary.{Contains, take, AreLastValues}
use Rattle.exec_axioms.proofs.sketch.Sketch.last_values.Given as goal

-- what is shown of the accesses so far
abbrev pub invariant-loop-d : goal.invariant-loop-d
invariant-loop-d l = AreLastValues l.self l.shown (Contains (take l.d l.events)) l.values
