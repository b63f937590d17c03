use Rattle.text_tokens.proofs.Vocabulary.{inr}
use Rattle.text_tokens.proofs.lexer.comment_front.Goals as goal

pub returns-in-Some : goal.returns-in-Some
returns-in-Some c = inr (c.requires.opens, rw (← c.skip.ensures) c.in-Some.ensures.some)
