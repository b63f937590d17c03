use Rattle.cert_forest.proofs.PushedTrees.{cycle_pushed}
use Rattle.cert_forest.proofs.root.cycle_root.Goals as goal

pub returns-clause-pushes : goal.returns-clause-pushes
returns-clause-pushes c =
    cycle_pushed c.args.bytes.now c.in_ok-kind.rest.now c.in_ok-count.rest.now c.in_ok-rest.rest.now c.in_ok-kind.kind c.in_ok-count.count c.args.nodes.now.items c.events.new.nodes.items
    c.in_ok-kind.ensures c.in_ok-count.ensures c.in_ok-rest.ensures.pushes
