use Rattle.answers.proofs.replays.steps_of.Goals as goal

pub returns-in-Ok-clause-err : goal.returns-in-Ok-clause-err
returns-in-Ok-clause-err c = rw (c.deref.ensures.value, c.in-Ok.ensures) at c.read_run.ensures.fault
