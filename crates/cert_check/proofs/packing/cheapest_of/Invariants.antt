use Rattle.cert_check.proofs.Vocabulary.{◌<◌, MAX_GAPS, numbers_of_set}
use Rattle.std.specs.Prelude.{IfSome}
use Rattle.cert_check.proofs.PackedGaps.{IsBestSoFar}
use Rattle.cert_check.proofs.packing.cheapest_of.Given as goal

-- the best of the gaps so far, and those to come
abbrev pub invariant-loop-gap : goal.invariant-loop-gap
invariant-loop-gap l = record {
  best : IsBestSoFar l.costs (numbers_of_set l.fn.gaps) l.best l.gap-iterator;
  below : IfSome l.best (λ gap. gap < MAX_GAPS);
}
