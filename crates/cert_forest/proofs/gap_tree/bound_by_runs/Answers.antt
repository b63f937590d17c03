use Rattle.cert_forest.proofs.Vocabulary.{err_from_is_err_and}
use Rattle.cert_forest.proofs.PushedTrees.{bound_pushed, no_count, runs_stop}
use Rattle.cert_forest.proofs.gap_tree.bound_by_runs.Goals as goal

pub returns-in_err-count-clause-stops : goal.returns-in_err-count-clause-stops
returns-in_err-count-clause-stops c =
    let p = err_from_is_err_and c.from_residual.result c.from_residual.ensures.1 in
    rw (p.1, p.2) (no_count c.args.bytes.now c.in_err-count.ensures)

pub returns-in_err-rest-clause-stops : goal.returns-in_err-rest-clause-stops
returns-in_err-rest-clause-stops c =
    let p = err_from_is_err_and c.from_residual-in_err-rest.result c.from_residual-in_err-rest.ensures.1 in
    rw (p.1, p.2) (runs_stop c.args.bytes.now c.in_ok-count.rest.now c.in_ok-count.count c.in_err-rest.field-0.0 c.in_ok-count.ensures c.in_err-rest.ensures.stops)

pub returns-clause-pushes : goal.returns-clause-pushes
returns-clause-pushes c =
    bound_pushed c.args.bytes.now c.in_ok-count.rest.now c.in_ok-rest.rest.now c.in_ok-count.count c.args.nodes.now.items c.bound_runs.new.nodes.items c.push.new.self.items
    c.in_ok-count.ensures c.in_ok-rest.ensures.pushes c.in_ok-push.ensures.items
