use Rattle.text_tokens.proofs.Vocabulary.{◌∙◌}
use Rattle.text_tokens.proofs.NumberLaws.{value_more}
use Rattle.text_tokens.proofs.numbers.value_up_to.Goals as goal

pub loop-digit-preserved : goal.loop-digit-preserved
loop-digit-preserved c = c.min-value.ensures ∙ value_more c.args.digits.now c.loop-digit.digit-index c.args.limit c.loop-digit.value c.from.result c.requires c.loop-digit-test.true c.loop-digit.invariant c.from.ensures
