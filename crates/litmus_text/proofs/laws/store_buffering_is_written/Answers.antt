use Rattle.litmus_text.proofs.Vocabulary.{decimal_digit, lit<, refl}
use Rattle.litmus_text.proofs.laws.store_buffering_is_written.Goals as goal

pub returns : goal.returns
returns c = rw (decimal_digit 0 (lit< tt), decimal_digit 1 (lit< tt)) refl
