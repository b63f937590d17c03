use Rattle.json_text.proofs.Vocabulary.{arith, Number}
use Rattle.json_text.proofs.json.JsonText.number.Goals as goal

pub invariant_of-result : goal.invariant_of-result
invariant_of-result c = record { value = Number c.args.value (omega (arith, c.ranges.value)); is = c.in_ok-bytes.ensures }
