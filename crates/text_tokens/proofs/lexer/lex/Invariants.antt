use Rattle.text_tokens.proofs.Vocabulary.{length, toks, BeginsWithAll}
use Rattle.text_tokens.proofs.lexer.lex.Given as goal

-- the text is the tokens so far and then the rest
abbrev pub invariant-loop-rest : goal.invariant-loop-rest
invariant-loop-rest l = BeginsWithAll (toks l.tokens.items) l.bytes l.rest

abbrev pub decreases-loop-rest : goal.decreases-loop-rest
decreases-loop-rest l = length l.rest
