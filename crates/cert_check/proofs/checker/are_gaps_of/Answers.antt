use Rattle.cert_check.proofs.Vocabulary.{sym, ◌∙◌}
use Rattle.tso_program.specs.Listings.{gap_count}
use Rattle.cert_check.proofs.SetAndCost.{all_within, within_all}
use Rattle.cert_check.proofs.checker.are_gaps_of.Goals as goal

pub returns : goal.returns
returns c =
    let count = gap_count c.args.program.now.threads in (
      (λ yes. all_within c.args.gaps.now c.all_gaps.result count c.all_gaps.ensures (sym c.holds_all.ensures ∙ yes)),
      (λ within. c.holds_all.ensures ∙ within_all c.args.gaps.now c.all_gaps.result count c.all_gaps.ensures within),
    )
