use Rattle.hunt_board.proofs.Vocabulary.{◌+◌, ◌<◌, arith, length}
use Rattle.hunt_board.proofs.Walks.{has_first, child_there}
use Rattle.hunt_board.proofs.record.child_of.Goals.{In_ok-number}
use Rattle.hunt_board.proofs.record.child_of.Goals as goal

pub unreachable-requires : goal.unreachable-requires
unreachable-requires c =
    let first = has_first c.args.finished.now c.args.place c.in-Some.settled c.in-Split.run' c.in-Split.is c.in-Some.ensures in
    c.in_default-first_child.ensures.none first.0 first.1

-- the child stands after the node
child : (c : In_ok-number) → (c.args.place < c.in-Some-first_child.first + c.in_ok-number.number) × (c.in-Some-first_child.first + c.in_ok-number.number < length c.args.finished.now.entries)
child c = child_there c.args.finished.now c.args.place c.in-Some.settled c.in-Split.run' c.in-Split.is c.in-Some.ensures c.recall_facts.ensures.outcome
    c.in-Some-first_child.first c.in_ok-number.number c.passed.result c.in-Some-first_child.ensures.some c.passed.ensures c.in_ok-number.ensures.below

pub overflow_add-result : goal.overflow_add-result
overflow_add-result c =
    let there = child (goal.at.overflow_add-result c).In_ok-number in
    let low : c.in-Some-first_child.first + c.in_ok-number.number < c.nodes.result = omega (arith, c.nodes.ensures, there.1) in
    omega arith

pub returns-clause-later : goal.returns-clause-later
returns-clause-later c = (child (goal.at.returns-clause-later c).In_ok-number).0

pub returns-clause-there : goal.returns-clause-there
returns-clause-there c = (child (goal.at.returns-clause-there c).In_ok-number).1
