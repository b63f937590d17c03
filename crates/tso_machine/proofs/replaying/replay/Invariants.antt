use Rattle.tso_machine.proofs.Vocabulary.{◌≡◌, take, Some, run, start, machine_of_model, ArePassed, state_of, FitsProgram}
use Rattle.tso_machine.proofs.replaying.replay.Given as goal

-- the steps so far lead to the state, and pass the gaps passed
abbrev pub invariant-loop-n : goal.invariant-loop-n
invariant-loop-n l = record {
  reached : run l.program (machine_of_model l.program l.fenced l.model) (start l.program) (take l.n l.labels) ≡ Some (state_of l.state);
  gaps : ArePassed l.program (machine_of_model l.program l.fenced l.model) (take l.n l.labels) l.passed;
  fits : FitsProgram l.program l.state;
}
