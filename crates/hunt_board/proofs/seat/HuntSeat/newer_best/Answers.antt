use Rattle.hunt_board.proofs.Vocabulary.{refl, inr, subst, IsBeatenBy}
use Rattle.hunt_board.proofs.seat.HuntSeat.newer_best.Goals as goal

pub returns-then-has_as_good-clause-best : goal.returns-then-has_as_good-clause-best
returns-then-has_as_good-clause-best c =
    let older = subst (IsBeatenBy c.args.costs.now c.args.self.now.best) c.set-set.ensures (c.has_as_good.ensures.yes c.if-has_as_good.true) in
    inr (older.0, older.1, refl, older.2)
