use Rattle.cert_trees.proofs.WalkSteps.{value_shown, source_shown, cycle_begins, far_goes_on, far_shown}
use Rattle.cert_trees.proofs.walk.shown.Goals as goal

pub known-near-requires : goal.known-near-requires
known-near-requires c = far_goes_on c.args.nodes.now c.args.first c.args.others.now c.requires.whole c.requires.trees c.in-Far.times c.in-Far.is

pub cycle-requires-clause-begins : goal.cycle-requires-clause-begins
cycle-requires-clause-begins c =
    cycle_begins c.args.nodes.now c.args.first c.args.others.now c.requires.whole c.requires.trees c.in_default.not-Value c.in_default.not-Source c.in_default.not-Order c.in_default.not-Known c.in_default.not-Far

pub returns-in-Value-clause-trees : goal.returns-in-Value-clause-trees
returns-in-Value-clause-trees c = (value_shown c.args.nodes.now c.args.first c.args.others.now c.requires.whole c.requires.trees c.in-Value.thread c.in-Value.count c.in-Value.is).0

pub returns-in-Value-clause-next : goal.returns-in-Value-clause-next
returns-in-Value-clause-next c = (value_shown c.args.nodes.now c.args.first c.args.others.now c.requires.whole c.requires.trees c.in-Value.thread c.in-Value.count c.in-Value.is).1

pub returns-in-Source-clause-trees : goal.returns-in-Source-clause-trees
returns-in-Source-clause-trees c = (source_shown c.args.nodes.now c.args.first c.args.others.now c.requires.whole c.requires.trees c.in-Source.read c.in-Source.count c.in-Source.is).0

pub returns-in-Source-clause-next : goal.returns-in-Source-clause-next
returns-in-Source-clause-next c = (source_shown c.args.nodes.now c.args.first c.args.others.now c.requires.whole c.requires.trees c.in-Source.read c.in-Source.count c.in-Source.is).1

pub returns-in-Far-clause-trees : goal.returns-in-Far-clause-trees
returns-in-Far-clause-trees c =
    (far_shown c.args.nodes.now c.args.first c.args.others.now c.requires.whole c.requires.trees c.in-Far.times c.known-near.result.0 c.known-near.result.1.now c.in-Far.is c.known-near.ensures).0

pub returns-in-Far-clause-next : goal.returns-in-Far-clause-next
returns-in-Far-clause-next c =
    rw (c.from-in-Far.ensures, c.from-in-Far-2.ensures)
    ((far_shown c.args.nodes.now c.args.first c.args.others.now c.requires.whole c.requires.trees c.in-Far.times c.known-near.result.0 c.known-near.result.1.now c.in-Far.is c.known-near.ensures).1)
