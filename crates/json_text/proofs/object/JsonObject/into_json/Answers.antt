use Rattle.json_text.proofs.Vocabulary.{◌∙◌, ap, bytes_of_each, Object, object_text}
use Rattle.json_text.proofs.object.JsonObject.into_json.Goals as goal

pub invariant_of-result : goal.invariant_of-result
invariant_of-result c = record {
  value = Object c.self.invariant.fields;
  is = c.in_ok-bytes.ensures ∙ ap (λ members. object_text (bytes_of_each members)) c.deref.ensures.value ∙ ap object_text c.self.invariant.are;
}
