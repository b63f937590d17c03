use Rattle.documents.proofs.Vocabulary.{◌∙◌, ap, IfOk-weaker, object_text}
use Rattle.documents.proofs.survey.sayings.Goals as goal

pub returns : goal.returns
returns c =
    let both = rw (c.in_ok-add.ensures.text, c.new-object.ensures) at c.in_ok-add-2.ensures.text in
    IfOk-weaker c.into_json.result _ _ (λ json is. record {
      sequential = c.in_ok-sequential.sequential;
      of_sequential = c.in_ok-sequential.ensures;
      buffered = c.in_ok-buffered.buffered;
      of_buffered = c.in_ok-buffered.ensures;
      printed = is ∙ ap object_text both;
    }) c.into_json.ensures
