use Rattle.litmus_syntax.proofs.Vocabulary.{◌∙◌, sym, map, map_push, toks, sign_view, sign_at_view}
use Rattle.litmus_syntax.proofs.SignLaws.{no_sign_yet, next_sign, signs_end, signs_stop, some_left, none_left}
use Rattle.litmus_syntax.proofs.formula.read_signs.Goals as goal

pub loop-rest-init : goal.loop-rest-init
loop-rest-init c = rw c.new-signs.ensures.items (no_sign_yet c.args.threads (toks c.args.tokens.now))

pub loop-rest-preserved : goal.loop-rest-preserved
loop-rest-preserved c = rw (c.in_ok-push-in-Ok.ensures.items, map_push)
    (next_sign c.args.threads (toks c.args.tokens.now) (map sign_at_view c.loop-rest.signs.items) (toks c.loop-rest.rest.now) (sign_view c.in-Ok.sign) (toks c.in-Ok.after.now) c.loop-rest.invariant
    (some_left c.loop-rest.rest.now (sym c.is_empty.ensures ∙ c.loop-rest-test.true)) c.in-Ok.ensures.gives)

pub returns-in-Err : goal.returns-in-Err
returns-in-Err c =
    signs_stop c.args.threads (toks c.args.tokens.now) (map sign_at_view c.loop-rest.signs.items) (toks c.loop-rest.rest.now) c.loop-rest.invariant (some_left c.loop-rest.rest.now (sym c.is_empty.ensures ∙ c.loop-rest-test.true)) c.in-Err.ensures.gives

pub returns : goal.returns
returns c = signs_end c.args.threads (toks c.args.tokens.now) (map sign_at_view c.loop-rest.signs.items) (toks c.loop-rest.rest.now) c.loop-rest.invariant (none_left c.loop-rest.rest.now (sym c.is_empty.ensures ∙ c.loop-rest-test.false))
