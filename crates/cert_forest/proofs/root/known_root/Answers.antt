use Rattle.cert_forest.proofs.PushedTrees.{known_pushed}
use Rattle.cert_forest.proofs.root.known_root.Goals as goal

pub returns-clause-pushes : goal.returns-clause-pushes
returns-clause-pushes c = known_pushed c.args.bytes.now c.in_ok-run.rest.now c.in_ok-run.run' c.args.nodes.now.items c.push_known.new.nodes.items c.in_ok-run.ensures.gives c.in_ok-push_known.ensures
