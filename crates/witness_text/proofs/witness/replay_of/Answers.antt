use Rattle.std.specs.FinSet as set
use Rattle.tso_machine.specs.Machine as machine
use Rattle.witness_text.proofs.Vocabulary.{machine_of_model}
use Rattle.documents.proofs.Steps.{labels_of_steps}
use Rattle.witness_text.proofs.witness.replay_of.Goals as goal

pub returns-in-Ok-steps-clause-steps : goal.returns-in-Ok-steps-clause-steps
returns-in-Ok-steps-clause-steps c = rw c.empty-none.ensures at c.in-Ok-steps.ensures.steps

pub returns-in-Ok-steps-clause-labels : goal.returns-in-Ok-steps-clause-labels
returns-in-Ok-steps-clause-labels c =
    let p = c.args.program.now in
    labels_of_steps p (machine_of_model p set.empty c.args.model) (machine.start p) c.args.labels.now c.in-Ok-steps.steps.items (rw c.empty-none.ensures at c.in-Ok-steps.ensures.steps)

pub returns-in-Ok-steps-clause-ended : goal.returns-in-Ok-steps-clause-ended
returns-in-Ok-steps-clause-ended c = record {
  run = rw c.empty-none.ensures at c.in-Ok.ensures.run;
  passed = rw c.empty-none.ensures at c.in-Ok.ensures.passed;
  sequential = c.in-Ok.ensures.sequential;
}
