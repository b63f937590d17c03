use Rattle.text_tokens.proofs.Vocabulary.{◌<◌, length, ◌∙◌, sym, arith, nil_from_length, nothing, comment}
use Rattle.text_tokens.proofs.{CommentLaws.comment_shorter, SpaceLaws.white_space_forth, SpaceLaws.white_space_back, SpaceLaws.comment_back, SpaceLaws.other_back, SpaceLaws.empty_is}
use Rattle.text_tokens.proofs.space.after_space.Goals as goal

pub loop-rest-preserved-then-is_white_space : goal.loop-rest-preserved-then-is_white_space
loop-rest-preserved-then-is_white_space c =
    let text = c.loop-rest.rest.now in
    let some : 0 < length text = grind arith in
    rw c.skip-rest.ensures record {
      forth = λ end s. c.loop-rest.invariant.forth end (white_space_forth text end some (sym c.is_white_space.ensures ∙ c.if-is_white_space.true) s);
      back = λ end s. white_space_back text end some (sym c.is_white_space.ensures ∙ c.if-is_white_space.true) (c.loop-rest.invariant.back end s);
    }

pub loop-rest-smaller : goal.loop-rest-smaller
loop-rest-smaller c =
    comment_shorter c.loop-rest.rest.now c.in_ok-rest.rest.now (sym c.opens.ensures.value ∙ c.if-opens.true, rw c.skip.ensures at c.in_ok-rest.ensures.some)

pub loop-rest-preserved : goal.loop-rest-preserved
loop-rest-preserved c =
    let text = c.loop-rest.rest.now in
    let inside = rw c.skip.ensures at c.in_ok-rest.ensures.some in
    record {
      forth = λ end s. c.loop-rest.invariant.forth end (comment (sym c.opens.ensures.value ∙ c.if-opens.true, inside) s);
      back = λ end s. comment_back text c.in_ok-rest.rest.now end (sym c.opens.ensures.value ∙ c.if-opens.true, inside) (c.loop-rest.invariant.back end s);
    }

pub returns-else-opens-clause-some : goal.returns-else-opens-clause-some
returns-else-opens-clause-some c =
    c.loop-rest.invariant.forth c.loop-rest.rest.now (nothing (sym c.is_white_space.ensures ∙ c.if-is_white_space.false) (sym c.opens.ensures.value ∙ c.if-opens.false))

pub returns-else-opens-clause-only : goal.returns-else-opens-clause-only
returns-else-opens-clause-only c end s =
    other_back c.loop-rest.rest.now end (sym c.is_white_space.ensures ∙ c.if-is_white_space.false) (sym c.opens.ensures.value ∙ c.if-opens.false) (c.loop-rest.invariant.back end s)

pub returns-clause-some : goal.returns-clause-some
returns-clause-some c = c.loop-rest.invariant.forth c.loop-rest.rest.now (empty_is c.loop-rest.rest.now (nil_from_length _ (grind arith)))
