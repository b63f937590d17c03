use Rattle.std.proofs.Common.{option_map}
use Rattle.std.proofs.lemmas.Result.{err_from_is_err_and}
use Rattle.survey_text.proofs.finding.survey_text.Goals as goal

pub returns-in_err-told-clause-fault : goal.returns-in_err-told-clause-fault
returns-in_err-told-clause-fault g c =
    let p = err_from_is_err_and c.from_residual-in_err-told.result c.from_residual-in_err-told.ensures.1 in
    rw (p.1, p.2) tt

pub returns-clause-told : goal.returns-clause-told
returns-clause-told g c = rw c.verdict_of-verdict.ensures (c.in_ok-told.ensures (option_map (λ text. text.now) c.args.costs) c.in_ok-survey.ensures.told)
