use Rattle.cert_forest.proofs.Vocabulary.{[], err_from_is_err_and, Refused, Fails, stops_for_memory, repeat_at, access_at, PushesCycle}
use Rattle.cert_forest.proofs.PushedTrees.{three_pushed, three_stops, all_pushed, all_stop, if_ok, if_err}
use Rattle.cert_forest.proofs.root.events.Goals as goal

pub returns-in_err-first-clause-stops : goal.returns-in_err-first-clause-stops
returns-in_err-first-clause-stops c =
    let p = err_from_is_err_and c.from_residual.result c.from_residual.ensures.1 in
    rw (p.1, p.2) (three_stops c.args.kind c.loop-left.left c.args.nodes.now.items c.loop-left.nodes.items c.loop-left.rest.now _ (Refused c.in_err-first.field-0.0) c.loop-left-test.true c.in_err-first.ensures c.loop-left.invariant)

pub loop-left-preserved : goal.loop-left-preserved
loop-left-preserved c =
    three_pushed c.args.kind c.loop-left.left c.args.nodes.now.items c.loop-left.nodes.items c.push.new.self.items c.loop-left.rest.now c.in_ok-first.after.now _ c.in_ok-first.first c.in_ok-first.second c.in_ok-first.third
    c.loop-left-test.true c.in_ok-first.ensures c.in_ok-push.ensures.items c.loop-left.invariant

pub returns-clause-pushes : goal.returns-clause-pushes
returns-clause-pushes c =
    if_ok c.last_events.result (λ rest. PushesCycle c.args.kind c.loop-left.nodes.items c.last_events.new.nodes.items (repeat_at access_at c.loop-left.left [] c.loop-left.rest.now) rest.now)
    (λ rest. PushesCycle c.args.kind c.args.nodes.now.items c.last_events.new.nodes.items (repeat_at access_at c.args.count [] c.args.bytes.now) rest.now)
    (λ rest p. all_pushed c.args.kind c.loop-left.left c.args.nodes.now.items c.loop-left.nodes.items c.last_events.new.nodes.items c.loop-left.rest.now rest.now _ c.loop-left.invariant p) c.last_events.ensures.pushes

pub returns-clause-stops : goal.returns-clause-stops
returns-clause-stops c =
    if_err c.last_events.result (λ stop. Fails stops_for_memory stop (repeat_at access_at c.loop-left.left [] c.loop-left.rest.now)) (λ stop. Fails stops_for_memory stop (repeat_at access_at c.args.count [] c.args.bytes.now))
    (λ stop fails. all_stop c.args.kind c.loop-left.left c.args.nodes.now.items c.loop-left.nodes.items c.loop-left.rest.now _ stop c.loop-left.invariant fails) c.last_events.ensures.stops
