use Rattle.json_text.proofs.Vocabulary.{arith, refl}
unfoldable use Rattle.json_text.proofs.Vocabulary.{escaped}
use Rattle.std.proofs.lemmas.Fmt.{decimal_digit}
use Rattle.json_text.proofs.laws.the_example_is_written.Goals as goal

pub returns : goal.returns
unfolding escaped
returns c = λ small. rw (decimal_digit 7 (omega arith)) refl
