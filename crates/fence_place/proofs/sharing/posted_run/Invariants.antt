use Rattle.fence_place.proofs.Vocabulary.{IfSome}
use Rattle.fence_place.specs.{Internal.Sharing.CanSplit, declared.sharing.SplittingRun.SplittingRun}
use Rattle.fence_place.proofs.sharing.posted_run.Given as goal

-- the best so far splits the node
abbrev pub invariant-loop-seat : goal.invariant-loop-seat
invariant-loop-seat l = IfSome l.best (λ (best : SplittingRun). CanSplit l.hunt.question l.node best.run.now)
