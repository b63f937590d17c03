use Rattle.json_text.proofs.Vocabulary.{◌∙◌, Truth}
use Rattle.json_text.proofs.json.JsonText.truth.Goals as goal

pub invariant_of-result : goal.invariant_of-result
invariant_of-result c = record { value = Truth c.args.value; is = c.in_ok-bytes.ensures.items ∙ c.word.ensures }
