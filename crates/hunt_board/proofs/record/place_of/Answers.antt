use Rattle.hunt_board.proofs.Vocabulary.{sym, ◌∙◌, ends, goes}
use Rattle.hunt_board.proofs.{Found.stands_only, Walks.none_there}
use Rattle.hunt_board.proofs.record.place_of.Goals as goal

pub loop-child-preserved : goal.loop-child-preserved
loop-child-preserved c = λ end rest. c.loop-child.invariant end (goes c.loop-child.place c.in-Some.child end (sym c.in-Some.ensures.child) rest)

pub returns-clause-leads : goal.returns-clause-leads
returns-clause-leads c = c.loop-child.invariant c.loop-child.place (ends c.loop-child.place (sym c.child_of.ensures.child ∙ none_there c.child_of.result c.in_default.not-Some))

pub returns-clause-only : goal.returns-clause-only
returns-clause-only c = stands_only c.args.finished.now c.recall_facts.ensures.outcome c.args.node.now c.loop-child.place
    (c.loop-child.invariant c.loop-child.place (ends c.loop-child.place (sym c.child_of.ensures.child ∙ none_there c.child_of.result c.in_default.not-Some)))
