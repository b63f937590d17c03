use Rattle.std.proofs.Common.{option_map}
use Rattle.std.proofs.lemmas.Result.{err_from_is_err_and}
use Rattle.placed_text.proofs.Judged.{no_costs, no_problem, no_program}
use Rattle.survey_text.proofs.finding.survey_of.Goals as goal

pub returns-in_err-litmus-clause-fault : goal.returns-in_err-litmus-clause-fault
returns-in_err-litmus-clause-fault g c =
    let costs = option_map (λ text. text.now) c.args.costs in
    let why = c.in_err-litmus.field-0.0 in
    let p = err_from_is_err_and c.from_residual.result c.from_residual.ensures.1 in
    rw (p.1, p.2) (no_problem c.args.text.now costs c.args.effort.workers why (no_program c.args.text.now costs why c.in_err-litmus.ensures.refused))

pub returns-in_err-tied-clause-fault : goal.returns-in_err-tied-clause-fault
returns-in_err-tied-clause-fault g c =
    let costs = option_map (λ text. text.now) c.args.costs in
    let why = c.in_err-tied.field-0.0 in
    let p = err_from_is_err_and c.from_residual-in_err-tied.result c.from_residual-in_err-tied.ensures.1 in
    rw (p.1, p.2) (no_problem c.args.text.now costs c.args.effort.workers why (no_costs c.args.text.now costs c.in_ok-litmus.litmus why c.in_ok-litmus.ensures.found c.in_err-tied.ensures.refused))

pub returns-in_err-condition-clause-fault : goal.returns-in_err-condition-clause-fault
returns-in_err-condition-clause-fault g c =
    let p = err_from_is_err_and c.from_residual-in_err-condition.result c.from_residual-in_err-condition.ensures.1 in
    rw (p.1, p.2) c.in_err-condition.ensures.fault
