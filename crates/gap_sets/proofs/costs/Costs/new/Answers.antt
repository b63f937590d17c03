use Rattle.gap_sets.proofs.Vocabulary.{sym, ◌∙◌}
use Rattle.gap_sets.proofs.CostLimits.{IsCostList-from_no_fault}
use Rattle.gap_sets.proofs.costs.Costs.new.Goals as goal

pub invariant_of-result : goal.invariant_of-result
invariant_of-result c =
    rw (c.in_ok-new-in-None.ensures.ok, c.in_ok-from_slice-in-None.ensures.items) (IsCostList-from_no_fault _ (sym c.broken_limit.ensures ∙ c.in-None.is))

pub returns-in_ok-new-in-None-clause-limits : goal.returns-in_ok-new-in-None-clause-limits
returns-in_ok-new-in-None-clause-limits c = IsCostList-from_no_fault _ (sym c.broken_limit.ensures ∙ c.in-None.is)
