use Rattle.cert_forest.proofs.Vocabulary.{arith, err_from_is_err_and}
use Rattle.cert_forest.proofs.PushedTrees.{second_fails}
use Rattle.cert_forest.proofs.root.last_events.Goals as goal

pub returns-in_err-second-clause-stops : goal.returns-in_err-second-clause-stops
returns-in_err-second-clause-stops c =
    let p = err_from_is_err_and c.from_residual-in_err-second.result c.from_residual-in_err-second.ensures.1 in
    rw (p.1, p.2) (second_fails c.args.count c.args.bytes.now c.in_ok-first.rest.now c.in_ok-first.first (omega (arith, c.if-count-eq0.false, c.if-count-eq1.false)) c.in_ok-first.ensures c.in_err-second.ensures)
