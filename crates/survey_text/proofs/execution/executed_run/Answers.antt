use Rattle.survey_text.specs.Internal.Steps.{executes}
use Rattle.survey_text.proofs.Executed.{execute_exactly}
use Rattle.survey_text.proofs.execution.executed_run.Goals as goal

pub returns : goal.returns
returns c =
    let steps = c.in_ok-steps.steps.items in
    let labels = c.args.labels.now in
    record {
      labelled = c.in_ok-copy.ensures;
      is_executed = executes steps;
      exact = λ t k. execute_exactly c.args.program.now t k labels steps (rw c.as_slice.ensures at c.in_ok-steps.ensures);
      places = rw c.deref.ensures.value at c.in_ok-executed_places.ensures;
    }
