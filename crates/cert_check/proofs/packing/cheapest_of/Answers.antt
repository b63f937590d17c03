use Rattle.cert_check.proofs.Vocabulary.{sym, ◌∙◌, numbers_of_set}
use Rattle.cert_check.proofs.PackedGaps.{one_seen, all_seen}
use Rattle.cert_check.proofs.packing.cheapest_of.Goals as goal

pub loop-gap-init : goal.loop-gap-init
loop-gap-init c = record { best = sym (c.into_iter-gap-iterator.ensures.into_iter_gives ∙ c.iter-gap-items.ensures.value); below = tt }

pub loop-gap-preserved : goal.loop-gap-preserved
loop-gap-preserved c = record {
  best = one_seen c.args.costs.now (numbers_of_set c.args.gaps) c.loop-gap.best c.loop-gap.gap-iterator c.next.new.self c.in-Some.gap c.cheaper_of.result c.in-Some.ensures.steps c.loop-gap.invariant.best c.cheaper_of.ensures.best;
  below = c.cheaper_of.ensures.below;
}

pub returns-clause-cheapest : goal.returns-clause-cheapest
returns-clause-cheapest c = all_seen c.args.costs.now (numbers_of_set c.args.gaps) c.loop-gap.best c.loop-gap.gap-iterator c.in-None.ensures.steps.0 c.loop-gap.invariant.best
