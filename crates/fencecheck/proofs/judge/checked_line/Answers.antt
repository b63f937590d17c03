use Rattle.fencecheck.proofs.Vocabulary.{asked_with}
use Rattle.cert_check.proofs.RightClaims.{right_claim}
use Rattle.fencecheck.proofs.judge.checked_line.Goals as goal

pub returns-in-Err-clause-refused : goal.returns-in-Err-clause-refused
returns-in-Err-clause-refused c =
    let claim = right_claim (asked_with c.args.costs.now.ties c.args.program.now c.args.shown.now) c.args.costs.now.costs c.args.certificate.now c.in_ok-accepted.ensures.valid in
    record { shown = claim.shown; right_set = claim.right_set; cost = (claim.one_cost_each, claim.cost) }
