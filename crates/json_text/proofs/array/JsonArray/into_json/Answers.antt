use Rattle.json_text.proofs.Vocabulary.{◌∙◌, ap, bytes_of_each, Array, array_text}
use Rattle.json_text.proofs.array.JsonArray.into_json.Goals as goal

pub invariant_of-result : goal.invariant_of-result
invariant_of-result c = record {
  value = Array c.self.invariant.items;
  is = c.in_ok-bytes.ensures ∙ ap (λ items. array_text (bytes_of_each items)) c.deref.ensures.value ∙ ap array_text c.self.invariant.are;
}
