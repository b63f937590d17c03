use Rattle.json_text.proofs.Vocabulary.{Null}
use Rattle.json_text.proofs.json.JsonText.null.Goals as goal

pub invariant_of-result : goal.invariant_of-result
invariant_of-result c = record { value = Null; is = c.in_ok-bytes.ensures.items }
