use Rattle.cert_forest.proofs.Vocabulary.{Contains, take}
use Rattle.cert_forest.proofs.run_list.Runs.position.Given as goal

-- none of those so far has the labels
abbrev pub invariant-loop-number : goal.invariant-loop-number
invariant-loop-number l = ¬ Contains (take l.number l.self) l.labels
