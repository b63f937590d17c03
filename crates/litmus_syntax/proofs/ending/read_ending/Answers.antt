use Rattle.litmus_syntax.proofs.Vocabulary.{map, toks, place_view, sign_at_view}
use Rattle.litmus_syntax.proofs.{Options.handed_on, EndingLaws.ending_is_read, EndingLaws.no_observed, EndingLaws.no_quantifier, EndingLaws.no_signs, EndingLaws.carried}
use Rattle.litmus_syntax.proofs.ending.read_ending.Goals as goal

pub returns-in_err-observed : goal.returns-in_err-observed
returns-in_err-observed c = rw (handed_on c.from_residual.result c.from_residual.ensures.1) (no_observed c.args.threads (toks c.args.tokens.now) c.in_err-observed.field-0.0 c.in_err-observed.ensures)

pub returns-in_err-quantifier : goal.returns-in_err-quantifier
returns-in_err-quantifier c =
    rw (handed_on c.from_residual-in_err-quantifier.result c.from_residual-in_err-quantifier.ensures.1)
    (no_quantifier c.args.threads (toks c.args.tokens.now) (toks c.in_ok-observed.rest.now) (map place_view c.in_ok-observed.observed.items) c.in_ok-observed.ensures c.in_err-quantifier.ensures)

pub returns : goal.returns
returns c =
    let ts = toks c.args.tokens.now in
    let us = toks c.in_ok-observed.rest.now in
    let vs = toks c.in_ok-quantifier.rest.now in
    let ps = map place_view c.in_ok-observed.observed.items in
    carried c.in_ok-signs.signs.refusal _ _ _ _
    (ending_is_read c.args.threads ts us vs ps c.in_ok-quantifier.quantifier (map sign_at_view c.in_ok-signs.signs.signs.items) c.in_ok-observed.ensures c.in_ok-quantifier.ensures)
    (λ r. no_signs c.args.threads ts us vs ps c.in_ok-quantifier.quantifier c.in_ok-observed.ensures c.in_ok-quantifier.ensures) c.in_ok-signs.ensures
