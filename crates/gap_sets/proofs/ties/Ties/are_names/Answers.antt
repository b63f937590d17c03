use Rattle.gap_sets.proofs.Vocabulary.{refl, arith, sym}
use Rattle.gap_sets.proofs.Names.{one_more_name, are_ties}
use Rattle.gap_sets.proofs.ties.Ties.are_names.Goals as goal

pub loop-gap-preserved : goal.loop-gap-preserved
loop-gap-preserved c = one_more_name c.args.names.now c.loop-gap.gap c.loop-gap.invariant (c.is_name.ensures.0 c.if-not-is_name.false)

pub returns : goal.returns
returns c = (λ _. are_ties c.args.names.now c.loop-gap.gap (omega (arith, c.if-names.false)) (omega (arith, c.loop-gap-test.false)) c.loop-gap.invariant, λ _. refl)
