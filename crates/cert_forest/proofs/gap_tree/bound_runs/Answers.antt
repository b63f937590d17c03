use Rattle.cert_forest.proofs.Vocabulary.{err_from_is_err_and, Refused, run_nodes, run_number_at}
use Rattle.cert_forest.proofs.PushedTrees.{one_pushed}
use Rattle.cert_forest.proofs.Loops.{repeat_stops}
use Rattle.cert_forest.proofs.gap_tree.bound_runs.Goals as goal

pub returns-in_err-run-clause-stops : goal.returns-in_err-run-clause-stops
returns-in_err-run-clause-stops c =
    let p = err_from_is_err_and c.from_residual.result c.from_residual.ensures.1 in
    rw (p.1, p.2) (repeat_stops run_number_at c.args.count c.loop.counter c.loop.invariant.trees c.loop.rest.now (Refused c.in_err-run.field-0.0) _ c.loop-test.true c.in_err-run.ensures.gives c.loop.invariant.left)

pub loop-preserved : goal.loop-preserved
loop-preserved c =
    one_pushed run_nodes run_number_at c.args.count c.args.bytes.now c.loop.counter c.args.nodes.now.items c.loop.nodes.items c.push.new.self.items c.loop.rest.now c.in_ok-run.after.now c.loop-test.true c.loop.invariant
    (record { tree = c.in_ok-run.run'; is_read = c.in_ok-run.ensures.gives; pushed = c.in_ok-push.ensures.items })
