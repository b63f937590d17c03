use Rattle.tso_machine.proofs.Vocabulary.{◌≡◌, take, Some, run, start, machine_of_model, AreSteps, state_of, FitsProgram}
use Rattle.tso_machine.proofs.stepping.steps.Given as goal

-- the labels so far lead to the state, by these steps
abbrev pub invariant-loop-n : goal.invariant-loop-n
invariant-loop-n l = record {
  reached : run l.program (machine_of_model l.program l.fenced l.model) (start l.program) (take l.n l.labels) ≡ Some (state_of l.state);
  made : AreSteps l.program (machine_of_model l.program l.fenced l.model) (start l.program) (take l.n l.labels) l.steps.items;
  fits : FitsProgram l.program l.state;
}
