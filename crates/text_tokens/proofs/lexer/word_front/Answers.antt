use Rattle.text_tokens.proofs.Fronts.{word_begins}
use Rattle.text_tokens.proofs.lexer.word_front.Goals as goal

pub returns : goal.returns
returns c = rw (c.split_at.ensures.front, c.split_at.ensures.back, c.word_len.ensures.value) (word_begins c.args.bytes.now c.requires)
