use Rattle.fence_place.proofs.Vocabulary.{ℕ, List, subst, IsBeatenBy}
use Rattle.fence_place.proofs.worker.known_settling.Goals as goal

pub returns-then-has_as_good-clause-lawful : goal.returns-then-has_as_good-clause-lawful
returns-then-has_as_good-clause-lawful c =
    subst (λ (costs : List ℕ). IsBeatenBy costs c.args.worker.now.seat.best c.args.node.now.must) c.costs.ensures (c.has_as_good.ensures.yes c.if-has_as_good.true)
