use Rattle.text_tokens.proofs.OneReading.{LexesTo-one}
use Rattle.text_tokens.proofs.laws.a_text_has_one_list_of_tokens.Goals as goal

pub returns : goal.returns
returns c = LexesTo-one
