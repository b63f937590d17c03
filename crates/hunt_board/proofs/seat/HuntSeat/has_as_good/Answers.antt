use Rattle.hunt_board.proofs.Vocabulary.{true≢false, Option, sym, ap, ◌∙◌, subst, SetOfGaps, SeatView, IfSome, Better, not-true}
use Rattle.hunt_board.specs.{declared.seat.Confirmed.Confirmed, Internal.Confirmed.serving_of, Internal.Confirmed.IsKept}
use Rattle.hunt_board.proofs.seat.HuntSeat.has_as_good.Goals as goal

pub returns-in-Some-clause-yes : goal.returns-in-Some-clause-yes
returns-in-Some-clause-yes c = λ not_better. (
  c.in-Some.best.served.value,
  sym (ap (λ (s : SeatView). s.best) c.self.view_is) ∙ ap serving_of c.in-Some.is,
  (λ better.
      let kept = subst (λ (o : Option Confirmed). IfSome o IsKept) c.in-Some.is c.self.invariant in
      let here = c.better.ensures.1 (subst (λ (s : SetOfGaps). Better c.args.costs.now c.args.set.now s) (sym kept.0) better) in
      true≢false (sym here ∙ not-true c.better.result not_better)),
)
