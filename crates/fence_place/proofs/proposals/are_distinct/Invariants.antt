use Rattle.fence_place.proofs.Vocabulary.{◌≡◌, ◌++◌, AreDistinct}
use Rattle.fence_place.proofs.proposals.are_distinct.Given as goal

-- the runs so far and those to come are all of them, and the runs so far are distinct
abbrev pub invariant-loop-labels : goal.invariant-loop-labels
invariant-loop-labels l = record {
  all : l.seen ++ l.labels-iterator ≡ l.runs;
  once : AreDistinct l.seen;
}
