use Rattle.tso_machine.specs.declared.label.Model.TheVariants as models
use Rattle.tso_machine.specs.Machine as machine
use Rattle.tso_machine.specs.Modes.{machine_of_model}
use Rattle.documents.proofs.Steps.{labels_of_steps}
use Rattle.placed_text.proofs.reasons.steps_of.Goals as goal

pub returns-in-Ok : goal.returns-in-Ok
returns-in-Ok c =
    let p = c.args.program.now in
    record {
      steps = c.in-Ok.ensures.steps;
      labels = labels_of_steps p (machine_of_model p c.args.others.now models.Buffered) (machine.start p) _ _ c.in-Ok.ensures.steps;
    }
