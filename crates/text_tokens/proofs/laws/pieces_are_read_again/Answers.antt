use Rattle.text_tokens.proofs.PieceLaws.{pieces_lex}
use Rattle.text_tokens.proofs.laws.pieces_are_read_again.Goals as goal

pub returns : goal.returns
returns c = pieces_lex
