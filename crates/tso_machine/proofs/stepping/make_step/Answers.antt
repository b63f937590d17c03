use Rattle.tso_machine.proofs.Vocabulary.{machine_of_model, state_of}
use Rattle.tso_machine.proofs.stepping.make_step.Goals as goal

pub returns-in-Err-clause-err : goal.returns-in-Err-clause-err
returns-in-Err-clause-err c = c.in-Err.ensures.err (machine_of_model c.args.program.now c.args.fenced.now c.args.model) (state_of c.args.state.now)

pub returns-in-Err-thread-clause-err : goal.returns-in-Err-thread-clause-err
returns-in-Err-thread-clause-err c = c.in-Err-thread.ensures.err (machine_of_model c.args.program.now c.args.fenced.now c.args.model) (state_of c.args.state.now)
