use Rattle.fencecheck.proofs.judge.judge_read.Goals as goal

pub returns-in-Err-clause-refused : goal.returns-in-Err-clause-refused
returns-in-Err-clause-refused c source is =
    let why = c.in-Err.ensures in
    (c.args.litmus.now, is, record { trailing = why.trailing; more = why.more; none = why.only })

pub returns-in-Ok-clause-accepted : goal.returns-in-Ok-clause-accepted
returns-in-Ok-clause-accepted c source is = c.judge_certificate.ensures.accepted _ _ (record { of_program = is; of_certificate = c.in-Ok.ensures.found })

pub returns-in-Ok-clause-refused : goal.returns-in-Ok-clause-refused
returns-in-Ok-clause-refused c source is = c.judge_certificate.ensures.refused _ _ (record { of_program = is; of_certificate = c.in-Ok.ensures.found })
