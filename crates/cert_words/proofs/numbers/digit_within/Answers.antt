use Rattle.cert_words.proofs.Vocabulary.{sym, ◌∙◌, arith}
use Rattle.cert_words.proofs.WordLaws.{digit_plain}
use Rattle.cert_words.proofs.numbers.digit_within.Goals as goal

pub returns-then-from-limit-clause-value : goal.returns-then-from-limit-clause-value
returns-then-from-limit-clause-value c =
    rw c.from-then-from-limit.ensures (digit_plain c.args.limit c.args.byte (omega arith) (sym c.is_ascii_digit.ensures.value ∙ c.if-is_ascii_digit.true) (omega arith))
