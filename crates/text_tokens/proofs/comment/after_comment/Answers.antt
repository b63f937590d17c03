use Rattle.text_tokens.proofs.Vocabulary.{◌≡◌, ◌∙◌, sym, arith, true, false, length-drop, opens, closes}
use Rattle.text_tokens.proofs.CommentLaws.{close_forth, close_back, open_forth, open_back, other_forth, other_back, short_back}
use Rattle.text_tokens.proofs.comment.after_comment.Goals as goal

pub returns-then-depth-eq1-clause-some : goal.returns-then-depth-eq1-clause-some
returns-then-depth-eq1-clause-some c =
    let inv = c.loop-rest.invariant in
    inv.forth c.skip.result.now (close_forth _ _ _ (sym c.closes.ensures ∙ c.if-closes.true) inv.low (rw (c.if-depth-eq1.true) (sym c.skip.ensures)))

pub loop-rest-preserved-then-closes : goal.loop-rest-preserved-then-closes
loop-rest-preserved-then-closes c =
    let inv = c.loop-rest.invariant in
    let is : closes c.loop-rest.rest.now ≡ true = sym c.closes.ensures ∙ c.if-closes.true in
    rw c.skip-rest.ensures record {
      forth = λ end o. inv.forth end (close_forth c.loop-rest.rest.now end c.loop-rest.depth is inv.low o);
      back = λ end i. close_back c.loop-rest.rest.now end c.loop-rest.depth is inv.low (inv.back end i);
      low = omega arith;
      room = omega (arith, length-drop 2 c.loop-rest.rest.now);
    }

pub loop-rest-preserved-then-opens : goal.loop-rest-preserved-then-opens
loop-rest-preserved-then-opens c =
    let inv = c.loop-rest.invariant in
    let is : opens c.loop-rest.rest.now ≡ true = sym c.opens.ensures.value ∙ c.if-opens.true in
    rw c.skip-rest-then-opens.ensures record {
      forth = λ end o. inv.forth end (open_forth c.loop-rest.rest.now end c.loop-rest.depth is inv.low o);
      back = λ end i. open_back c.loop-rest.rest.now end c.loop-rest.depth is inv.low (inv.back end i);
      low = omega arith;
      room = omega (arith, length-drop 2 c.loop-rest.rest.now);
    }

pub loop-rest-preserved : goal.loop-rest-preserved
loop-rest-preserved c =
    let inv = c.loop-rest.invariant in
    let opens_not : opens c.loop-rest.rest.now ≡ false = sym c.opens.ensures.value ∙ c.if-opens.false in
    let closes_not : closes c.loop-rest.rest.now ≡ false = sym c.closes.ensures ∙ c.if-closes.false in
    rw c.skip-rest-else-opens.ensures record {
      forth = λ end o. inv.forth end (other_forth c.loop-rest.rest.now end c.loop-rest.depth (omega arith) opens_not closes_not inv.low o);
      back = λ end i. other_back c.loop-rest.rest.now end c.loop-rest.depth (omega arith) opens_not closes_not inv.low (inv.back end i);
      low = inv.low;
      room = omega (arith, length-drop 1 c.loop-rest.rest.now);
    }

pub returns-clause-none : goal.returns-clause-none
returns-clause-none c = λ end i. short_back c.loop-rest.rest.now end c.loop-rest.depth (omega arith) c.loop-rest.invariant.low (c.loop-rest.invariant.back end i)
