use Rattle.gap_list.proofs.Vocabulary.{◌≡◌, ◌∙◌, ap, arith}
use Rattle.std.proofs.Common.{rules, tests}
use Rattle.std.proofs.lemmas.Bool.Decides.{nat_tests}
use Rattle.std.proofs.lemmas.Grind.{common_steps}
use Rattle.std.specs.Prelude.{max}
use Rattle.gap_list.proofs.Dearest.{dearest_more}
use Rattle.gap_list.proofs.dearest_ties.dearest.Goals as goal

pub loop-other-preserved : goal.loop-other-preserved
loop-other-preserved c =
    let is : c.max-most.result ≡ max c.loop-other.most c.cost_beside.result = first_of (search (rules, tests), grind (arith, nat_tests), grind (arith, common_steps)) in
    is ∙ ap (max c.loop-other.most) c.cost_beside.ensures ∙ dearest_more c.args.costs.now c.args.ties.now c.args.gap c.loop-other.other c.loop-other.most c.loop-other.invariant
