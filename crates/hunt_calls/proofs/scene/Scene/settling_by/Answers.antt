use Rattle.hunt_calls.proofs.Vocabulary.{ℕ, List, subst, IsBeatenBy}
use Rattle.hunt_calls.proofs.scene.Scene.settling_by.Goals as goal

pub returns-then-has_as_good-clause-lawful : goal.returns-then-has_as_good-clause-lawful
returns-then-has_as_good-clause-lawful g c =
    subst (λ (costs : List ℕ). IsBeatenBy costs c.args.seat.now.best c.args.node.now.must) c.costs.ensures (c.has_as_good.ensures.yes c.if-has_as_good.true)
