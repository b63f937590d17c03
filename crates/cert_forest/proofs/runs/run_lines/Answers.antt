use Rattle.cert_forest.proofs.Vocabulary.{err_from_is_err_and, run_at}
use Rattle.cert_forest.proofs.Loops.{repeat_more, repeat_stops}
use Rattle.cert_forest.proofs.runs.run_lines.Goals as goal

pub returns-in_err-run : goal.returns-in_err-run
returns-in_err-run c =
    let p = err_from_is_err_and c.from_residual.result c.from_residual.ensures.1 in
    rw (p.1, p.2) (repeat_stops run_at c.args.count c.loop.counter c.loop.found c.loop.rest.now c.in_err-run.field-0.0 _ c.loop-test.true c.in_err-run.ensures c.loop.invariant)

pub loop-preserved : goal.loop-preserved
loop-preserved c =
    rw (c.in_ok-push.ensures.ok, c.deref.ensures.value) (repeat_more run_at c.args.count c.loop.counter c.loop.found c.loop.rest.now c.in_ok-run.run'.items c.in_ok-run.after.now _ c.loop-test.true c.in_ok-run.ensures c.loop.invariant)
