use Rattle.text_tokens.proofs.Vocabulary.{◌∙◌, sym, arith}
use Rattle.text_tokens.proofs.NumberLaws.{found_plain, only_plain, never_plain}
use Rattle.text_tokens.proofs.numbers.plain_number.Goals as goal

pub returns-then-is_plain-clause-found : goal.returns-then-is_plain-clause-found
returns-then-is_plain-clause-found c = found_plain c.args.limit c.args.bytes.now c.value_up_to.result (omega arith) (sym c.is_plain.ensures ∙ c.if-is_plain.true) c.value_up_to.ensures.value

pub returns-then-is_plain-clause-only : goal.returns-then-is_plain-clause-only
returns-then-is_plain-clause-only c = λ n le is. only_plain c.args.limit n c.args.bytes.now c.value_up_to.result (omega arith) (sym c.is_plain.ensures ∙ c.if-is_plain.true) c.value_up_to.ensures.value le is

pub returns-else-is_plain-clause-only : goal.returns-else-is_plain-clause-only
returns-else-is_plain-clause-only c = λ n le is. never_plain c.args.limit n c.args.bytes.now (omega arith) (sym c.is_plain.ensures ∙ c.if-is_plain.false) le is
