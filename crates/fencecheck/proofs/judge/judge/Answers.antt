use Rattle.fencecheck.proofs.judge.judge.Goals as goal

pub returns-in-Ok-clause-accepted : goal.returns-in-Ok-clause-accepted
returns-in-Ok-clause-accepted c = c.judge_read.ensures.accepted _ c.in-Ok.ensures.found

pub returns-in-Ok-clause-refused : goal.returns-in-Ok-clause-refused
returns-in-Ok-clause-refused c = c.judge_read.ensures.refused _ c.in-Ok.ensures.found
