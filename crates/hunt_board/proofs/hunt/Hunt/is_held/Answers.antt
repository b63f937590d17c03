use Rattle.hunt_board.proofs.Vocabulary.{true≢false, sym, subst, Region}
use Rattle.search_core.specs.States.{HoldsOnly}
use Rattle.hunt_board.proofs.hunt.Hunt.is_held.Goals as goal

pub returns-in-Some : goal.returns-in-Some
returns-in-Some c =
    let holds = c.in-Some.ensures.value in (
      (λ yes. (c.is_for.ensures.0 c.if-not-is_for.false, subst (λ (n : Region). HoldsOnly c.args.tree.now c.args.seat n) (c.same.ensures.0 yes) holds)),
      (λ both. c.same.ensures.1 (both.1.only c.in-Some.held holds.held)),
    )

pub returns-in-None : goal.returns-in-None
returns-in-None c = ((λ yes. absurd (true≢false (sym yes))), (λ both. absurd (c.in-None.ensures.value c.args.node.now both.1.held)))
