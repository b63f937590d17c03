use Rattle.cert_trees.proofs.WalkSteps.{cycle_ends, cycle_shown}
use Rattle.cert_trees.proofs.walk.cycle.Goals as goal

pub unreachable-requires : goal.unreachable-requires
unreachable-requires c = cycle_ends c.args.nodes.now c.requires.begins c.in-None.ensures

pub returns-clause-trees : goal.returns-clause-trees
returns-clause-trees c = (cycle_shown c.args.nodes.now c.requires.begins c.requires.trees c.in-Some.kind c.in-Some.rest.now c.in-Some.ensures).0

pub returns-clause-next : goal.returns-clause-next
returns-clause-next c = rw c.of-events.ensures ((cycle_shown c.args.nodes.now c.requires.begins c.requires.trees c.in-Some.kind c.in-Some.rest.now c.in-Some.ensures).1)
