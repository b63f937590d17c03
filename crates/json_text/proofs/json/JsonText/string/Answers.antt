use Rattle.json_text.proofs.Vocabulary.{Text}
use Rattle.json_text.proofs.json.JsonText.string.Goals as goal

pub invariant_of-result : goal.invariant_of-result
invariant_of-result c = record { value = Text c.args.text.now; is = c.in_ok-bytes.ensures }
