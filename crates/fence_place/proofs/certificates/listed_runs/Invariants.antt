use Rattle.fence_place.proofs.Vocabulary.{◌-◌, ◌≤◌, length, AreNumbersOf, AreSplitRuns, AreDistinct}
use Rattle.fence_place.proofs.certificates.listed_runs.Given as goal

abbrev pub invariant-loop-settled : goal.invariant-loop-settled
invariant-loop-settled l = record {
  within : length l.numbers.items ≤ length l.finished.entries;
  numbered : AreNumbersOf l.finished.entries l.runs l.numbers.items;
  of_nodes : AreSplitRuns l.finished.entries l.runs;
  once : AreDistinct l.runs;
}

abbrev pub decreases-loop-settled : goal.decreases-loop-settled
decreases-loop-settled l = length l.finished.entries - length l.numbers.items
