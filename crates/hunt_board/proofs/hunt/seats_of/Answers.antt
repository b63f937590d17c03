use Rattle.hunt_board.proofs.Vocabulary.{◌≡◌, ◌+◌, ◌++◌, ◌∷◌, [], ℕ, List, sym, ap, ◌∙◌, subst, arith, SeatView, AreFresh, Known, IsSeatOf}
use Rattle.hunt_board.proofs.Fresh.{one_more_fresh}
use Rattle.hunt_board.proofs.hunt.seats_of.Goals as goal

pub loop-number-preserved : goal.loop-number-preserved
loop-number-preserved c =
    let row = c.loop-number.row.items in
    let first = c.loop-number.first in
    let word_is = c.args.word.now in
    let is = c.loop-number.invariant in
    let items = c.in_ok-push.ensures.items ∙ ap (λ (s : SeatView). row ++ s ∷ []) c.new.ensures in (
      (λ h word.
          subst (λ (l : List SeatView). AreFresh h (c.loop-number.number + 1) l) (sym items)
          (one_more_fresh h c.loop-number.number row word_is first c.split.result word c.split.ensures.made is.1 is.2 (is.0 h word))),
      subst (IsSeatOf word_is) (sym c.split.ensures.same) is.1,
      ap (λ (k : Known). k.least) c.split.ensures.same ∙ is.2,
    )

pub returns : goal.returns
returns c = λ h word.
    let up = c.loop-number-test.false in
    let down = c.loop-number.auto.number-end in
    let all : c.loop-number.number ≡ c.args.seats = omega arith in
    subst (λ (n : ℕ). AreFresh h n c.loop-number.row.items) all (c.loop-number.invariant.0 h word)
