use Rattle.text_tokens.proofs.Vocabulary.{◌≡◌, ◌+◌, take, min, digits_value}
use Rattle.text_tokens.proofs.numbers.value_up_to.Given as goal

-- the value of the digits so far, or one more than the limit
abbrev pub invariant-loop-digit : goal.invariant-loop-digit
invariant-loop-digit l = l.value ≡ min (digits_value 10 (take l.digit-index l.digits)) (l.limit + 1)
