use Rattle.cover_judge.proofs.Vocabulary.{take, length, sym, ◌<◌, ◌∙◌, arith, length-take-le, choices_in, first_tree, next_is_shorter, value_next, source_next, order_next}
use Rattle.cover_judge.proofs.{ChoicesJudged.choices_can, SketchesAfter.valid_after, SketchesAfter.wrong_after}
use Rattle.cover_judge.proofs.CoverNodes.{valid_by_children, wrong_by_child, wrong_by_root, order_valid, order_wrong}
use Rattle.cover_judge.proofs.CoverSteps.{lists_of, judged_none, judged_more, judged_wrong, judged_all, past_all, next_can, next_some, not_longer}
use Rattle.cover_judge.proofs.cover.CoverJudge.+judge.Goals as goal

-- ---- the children of a node

pub judge_children-returns-in_err-choices-clause-wrong : goal.judge_children-returns-in_err-choices-clause-wrong
judge_children-returns-in_err-choices-clause-wrong t c =
    wrong_by_root c.args.self.now.rule c.args.self.now.shown.now c.args.self.now.outcomes.now c.args.sketch.now c.args.next
    c.from_residual.result c.in_err-choices.field-0.0 c.args.count c.args.walk.now c.requires.many c.from_residual.ensures.1 c.in_err-choices.ensures.wrong

pub judge_children-judge_each-requires : goal.judge_children-judge_each-requires
judge_children-judge_each-requires t c =
    let many = c.in_ok-choices.ensures.many in
    (omega arith, (choices_can c.args.self.now.rule c.args.sketch.now c.args.next (choices_in c.in_ok-choices.choices) c.in_ok-choices.ensures.choices, (c.requires.lists, omega (arith, c.requires.many))))

pub judge_children-returns-clause-after : goal.judge_children-returns-clause-after
judge_children-returns-clause-after t c = rw (← c.in_ok-choices.ensures.many) at c.judge_each.ensures.after

pub judge_children-returns-clause-valid : goal.judge_children-returns-clause-valid
judge_children-returns-clause-valid t c =
    valid_by_children c.args.self.now.rule c.args.self.now.shown.now c.args.self.now.outcomes.now c.args.sketch.now c.args.next (choices_in c.in_ok-choices.choices) c.in_ok-choices.ensures.choices
    c.judge_each.result (take c.args.count c.args.walk.now) (rw (← c.in_ok-choices.ensures.many) at c.judge_each.ensures.valid)

pub judge_children-returns-clause-wrong : goal.judge_children-returns-clause-wrong
judge_children-returns-clause-wrong t c =
    let many = length-take-le c.args.count c.args.walk.now c.requires.many ∙ c.in_ok-choices.ensures.many in
    wrong_by_child c.args.self.now.rule c.args.self.now.shown.now c.args.self.now.outcomes.now c.args.sketch.now c.args.next (choices_in c.in_ok-choices.choices) c.in_ok-choices.ensures.choices
    c.judge_each.result (take c.args.count c.args.walk.now) many (rw (← c.in_ok-choices.ensures.many) at c.judge_each.ensures.wrong)

pub judge_each-loop-number-init : goal.judge_each-loop-number-init
judge_each-loop-number-init t c = judged_none c.args.self.now.rule c.args.self.now.shown.now c.args.self.now.outcomes.now c.args.sketch.now (choices_in c.args.choices.now) c.args.walk.now c.requires.as_many

pub judge_each-judge_after-requires : goal.judge_each-judge_after-requires
judge_each-judge_after-requires t c =
    let is = c.loop-number.invariant in
    let here : c.loop-number.number < length (choices_in c.args.choices.now) = omega (arith, c.loop-number-test.true, c.len-number-end.ensures) in
    (omega (arith, not_longer is here), (next_can is here c.at.result c.at.ensures c.requires.can, (lists_of c.args.self.now.rule c.args.self.now.lists.now (sym is.kept) c.requires.lists, next_some is here)))

pub judge_each-loop-number-preserved : goal.judge_each-loop-number-preserved
judge_each-loop-number-preserved t c =
    judged_more c.loop-number.invariant (omega (arith, c.loop-number-test.true, c.len-number-end.ensures)) c.at.result c.at.ensures c.judge_after.ensures.kept c.in-Ok.ensures.after c.in-Ok.ensures.valid

pub judge_each-returns-in-Err-clause-wrong : goal.judge_each-returns-in-Err-clause-wrong
judge_each-returns-in-Err-clause-wrong t c =
    judged_wrong c.loop-number.invariant (omega (arith, c.loop-number-test.true, c.len-number-end.ensures)) c.at.result c.at.ensures c.in-Err.fault c.from_parent.result c.from_parent.ensures c.in-Err.ensures.wrong

pub judge_each-returns-clause-after : goal.judge_each-returns-clause-after
judge_each-returns-clause-after t c = past_all c.loop-number.invariant (omega (arith, c.loop-number-test.false, c.len-number-end.ensures))

pub judge_each-returns-clause-valid : goal.judge_each-returns-clause-valid
judge_each-returns-clause-valid t c = judged_all c.loop-number.invariant (omega (arith, c.loop-number-test.false, c.len-number-end.ensures))

-- ---- a choice that is made and taken back

pub judge_after-take_back-requires : goal.judge_after-take_back-requires
judge_after-take_back-requires t c = (c.args.sketch.now, c.args.choice, c.in_ok-mark.ensures.mark, c.judge-judged.ensures.kept ∙ c.in_ok-mark.ensures.ok)

pub judge_after-returns-clause-kept : goal.judge_after-returns-clause-kept
judge_after-returns-clause-kept t c = c.take_back.ensures c.args.sketch.now c.args.choice c.in_ok-mark.ensures.mark (c.judge-judged.ensures.kept ∙ c.in_ok-mark.ensures.ok)

pub judge_after-returns-clause-valid : goal.judge_after-returns-clause-valid
judge_after-returns-clause-valid t c =
    valid_after c.args.self.now.rule c.args.self.now.shown.now c.args.self.now.outcomes.now c.args.sketch.now c.choose.new.sketch (first_tree c.args.walk.now) c.args.choice c.in_ok-mark.ensures.ok c.judge-judged.result c.judge-judged.ensures.valid

pub judge_after-returns-clause-wrong : goal.judge_after-returns-clause-wrong
judge_after-returns-clause-wrong t c =
    wrong_after c.args.self.now.rule c.args.self.now.shown.now c.args.self.now.outcomes.now c.args.sketch.now c.choose.new.sketch (first_tree c.args.walk.now) c.args.choice c.in_ok-mark.ensures.ok c.judge-judged.result c.judge-judged.ensures.wrong

-- ---- a node

pub judge-judge_children-requires : goal.judge-judge_children-requires
judge-judge_children-requires t c = (
  omega (arith, next_is_shorter c.args.walk.now c.next_node.new.self c.next_node.result c.next_node.ensures),
  ((value_next c.args.walk.now c.in-Value.thread c.in-Value.count c.next_node.new.self c.in-Value.ensures).fits, c.requires.lists),
)

pub judge-returns-in-Value-clause-after : goal.judge-returns-in-Value-clause-after
judge-returns-in-Value-clause-after t c =
    let next = value_next c.args.walk.now c.in-Value.thread c.in-Value.count c.next_node.new.self c.in-Value.ensures in
    rw next.rest at c.judge_children.ensures.after

pub judge-returns-in-Value-clause-valid : goal.judge-returns-in-Value-clause-valid
judge-returns-in-Value-clause-valid t c =
    let next = value_next c.args.walk.now c.in-Value.thread c.in-Value.count c.next_node.new.self c.in-Value.ensures in
    rw next.first c.judge_children.ensures.valid

pub judge-returns-in-Value-clause-wrong : goal.judge-returns-in-Value-clause-wrong
judge-returns-in-Value-clause-wrong t c =
    let next = value_next c.args.walk.now c.in-Value.thread c.in-Value.count c.next_node.new.self c.in-Value.ensures in
    rw next.first c.judge_children.ensures.wrong

pub judge-judge_children-requires-in-Source : goal.judge-judge_children-requires-in-Source
judge-judge_children-requires-in-Source t c = (
  omega (arith, next_is_shorter c.args.walk.now c.next_node.new.self c.next_node.result c.next_node.ensures),
  ((source_next c.args.walk.now c.in-Source.read c.in-Source.count c.next_node.new.self c.in-Source.ensures).fits, c.requires.lists),
)

pub judge-returns-in-Source-clause-after : goal.judge-returns-in-Source-clause-after
judge-returns-in-Source-clause-after t c =
    let next = source_next c.args.walk.now c.in-Source.read c.in-Source.count c.next_node.new.self c.in-Source.ensures in
    rw next.rest at c.judge_children-in-Source.ensures.after

pub judge-returns-in-Source-clause-valid : goal.judge-returns-in-Source-clause-valid
judge-returns-in-Source-clause-valid t c =
    let next = source_next c.args.walk.now c.in-Source.read c.in-Source.count c.next_node.new.self c.in-Source.ensures in
    rw next.first c.judge_children-in-Source.ensures.valid

pub judge-returns-in-Source-clause-wrong : goal.judge-returns-in-Source-clause-wrong
judge-returns-in-Source-clause-wrong t c =
    let next = source_next c.args.walk.now c.in-Source.read c.in-Source.count c.next_node.new.self c.in-Source.ensures in
    rw next.first c.judge_children-in-Source.ensures.wrong

pub judge-judge_children-requires-in-Order : goal.judge-judge_children-requires-in-Order
judge-judge_children-requires-in-Order t c = (
  omega (arith, next_is_shorter c.args.walk.now c.next_node.new.self c.next_node.result c.next_node.ensures),
  ((order_next c.args.walk.now c.in-Order.first c.in-Order.second c.next_node.new.self c.in-Order.ensures).fits, c.requires.lists),
)

pub judge-returns-in-Order-clause-after : goal.judge-returns-in-Order-clause-after
judge-returns-in-Order-clause-after t c =
    let next = order_next c.args.walk.now c.in-Order.first c.in-Order.second c.next_node.new.self c.in-Order.ensures in
    rw next.rest at c.judge_children-in-Order.ensures.after

pub judge-returns-in-Order-clause-valid : goal.judge-returns-in-Order-clause-valid
judge-returns-in-Order-clause-valid t c =
    let next = order_next c.args.walk.now c.in-Order.first c.in-Order.second c.next_node.new.self c.in-Order.ensures in
    rw next.first (order_valid c.args.self.now.rule c.args.self.now.shown.now c.args.self.now.outcomes.now c.args.sketch.now c.in-Order.first c.in-Order.second c.judge_children-in-Order.result c.next_node.new.self next.fits c.judge_children-in-Order.ensures.valid)

pub judge-returns-in-Order-clause-wrong : goal.judge-returns-in-Order-clause-wrong
judge-returns-in-Order-clause-wrong t c =
    let next = order_next c.args.walk.now c.in-Order.first c.in-Order.second c.next_node.new.self c.in-Order.ensures in
    rw next.first (order_wrong c.args.self.now.rule c.args.self.now.shown.now c.args.self.now.outcomes.now c.args.sketch.now c.in-Order.first c.in-Order.second c.judge_children-in-Order.result c.next_node.new.self next.fits c.judge_children-in-Order.ensures.wrong)
