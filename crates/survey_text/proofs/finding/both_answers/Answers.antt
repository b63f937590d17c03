use Rattle.std.proofs.lemmas.Result.{err_from_is_err_and}
use Rattle.survey_text.proofs.finding.both_answers.Goals as goal

pub returns-in_err-condition-clause-fault : goal.returns-in_err-condition-clause-fault
returns-in_err-condition-clause-fault g c =
    let p = err_from_is_err_and c.from_residual.result c.from_residual.ensures.1 in
    rw (p.1, p.2) c.in_err-condition.ensures.fault

pub returns-in_err-whole-clause-fault : goal.returns-in_err-whole-clause-fault
returns-in_err-whole-clause-fault g c =
    let p = err_from_is_err_and c.from_residual-in_err-whole.result c.from_residual-in_err-whole.ensures.1 in
    rw (p.1, p.2) c.in_err-whole.ensures.fault
