use Rattle.text_tokens.proofs.OneReading.{Lexes-is-whole}
use Rattle.text_tokens.proofs.laws.a_whole_text_has_no_bad_token.Goals as goal

pub returns : goal.returns
returns c = Lexes-is-whole
