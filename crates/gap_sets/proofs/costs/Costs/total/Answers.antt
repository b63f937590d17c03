use Rattle.gap_sets.proofs.Vocabulary.{ap, ◌∙◌, arith, total}
use Rattle.gap_sets.proofs.Totals.{next-limit, sum-whole, total-limit}
use Rattle.gap_sets.proofs.costs.Costs.total.Goals as goal

pub overflow_add-sum : goal.overflow_add-sum
overflow_add-sum c =
    let costs = c.as_slice-costs.result.now in
    let limits = rw (← c.as_slice-costs.ensures.value) at c.as_slice-costs.ensures.limits in
    omega (arith, next-limit costs c.args.set.now c.loop-gap.gap-iterator _ c.in-Some.gap c.loop-gap.sum limits c.loop-gap.invariant c.in-Some.ensures.steps)

pub returns-clause-value : goal.returns-clause-value
returns-clause-value c =
    sum-whole _ _ _ _ c.loop-gap.invariant c.in-None.ensures.steps.0
    ∙ ap (λ costs. total costs c.args.set.now) c.as_slice-costs.ensures.value

pub returns-clause-limit : goal.returns-clause-limit
returns-clause-limit c =
    let costs = c.as_slice-costs.result.now in
    let limits = rw (← c.as_slice-costs.ensures.value) at c.as_slice-costs.ensures.limits in
    omega (arith, sum-whole _ _ _ _ c.loop-gap.invariant c.in-None.ensures.steps.0, total-limit costs c.args.set.now limits)
