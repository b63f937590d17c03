use Rattle.documents.proofs.Vocabulary.{◌∙◌, ap, IfOk-weaker, object_text}
use Rattle.documents.proofs.run.run_value.Goals as goal

pub returns : goal.returns
returns c =
    let before = rw (c.in_ok-add_ended.ensures, c.in_ok-add.ensures.text, c.in_ok-add_setting.ensures, c.new-object.ensures) at c.in_ok-add-2.ensures.text in
    let last = rw before at c.in_ok-add-3.ensures.text in
    IfOk-weaker c.into_json.result _ _ (λ json is. record {
      steps = c.in_ok-steps_array.field-0;
      each = c.in_ok-steps_array.ensures;
      execution = c.in_ok-execution.execution;
      json = c.in_ok-add-2.ensures.json;
      says = c.in_ok-saying_of_run.field-0;
      said = c.in_ok-saying_of_run.ensures;
      printed = is ∙ ap object_text last;
    }) c.into_json.ensures
