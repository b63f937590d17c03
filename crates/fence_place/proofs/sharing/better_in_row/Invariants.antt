use Rattle.fence_place.proofs.Vocabulary.{IfSome}
use Rattle.fence_place.specs.{Internal.Sharing.CanSplit, declared.sharing.SplittingRun.SplittingRun}
use Rattle.fence_place.proofs.sharing.better_in_row.Given as goal

-- the best so far splits the node
abbrev pub invariant-loop-index : goal.invariant-loop-index
invariant-loop-index l = IfSome l.best (λ (best : SplittingRun). CanSplit l.hunt.question l.node best.run.now)
