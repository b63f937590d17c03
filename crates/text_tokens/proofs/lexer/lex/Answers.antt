use Rattle.text_tokens.proofs.Vocabulary.{arith, [], refl, inl, inr, nil_from_length, map_push, toks, none}
use Rattle.text_tokens.specs.Internal.Front.{lexeme_tok}
use Rattle.text_tokens.proofs.CommentLaws.{space_shorter}
use Rattle.text_tokens.proofs.OneReading.{whole_text, only_whole, only_stopped, not_whole, white_space_more, comment_more, token_more}
use Rattle.text_tokens.proofs.lexer.lex.Goals as goal

pub loop-rest-init : goal.loop-rest-init
loop-rest-init c = rw c.new-tokens.ensures.items none

pub loop-rest-preserved-in-Space : goal.loop-rest-preserved-in-Space
loop-rest-preserved-in-Space c =
    elim c.in-Space.ensures [
      | inl b ↦ white_space_more (toks c.loop-rest.tokens.items) c.args.bytes.now c.loop-rest.rest.now c.in-Space.after.now b.0 c.loop-rest.invariant b.1 b.2
      | inr k ↦ comment_more (toks c.loop-rest.tokens.items) c.args.bytes.now c.loop-rest.rest.now c.in-Space.after.now c.loop-rest.invariant k
    ]

pub loop-rest-preserved : goal.loop-rest-preserved
loop-rest-preserved c =
    rw (c.in_ok-push-in-Token.ensures.items, map_push, c.in_ok-token_of-in-Token.ensures)
    (token_more (toks c.loop-rest.tokens.items) (lexeme_tok c.in-Token.lexeme) c.args.bytes.now c.loop-rest.rest.now c.in-Token.after.now c.loop-rest.invariant c.in-Token.ensures)

pub returns-in-Bad-clause-lexes : goal.returns-in-Bad-clause-lexes
returns-in-Bad-clause-lexes c =
    rw (c.in_ok-push-in-Bad.ensures.items, map_push) (inr (toks c.loop-rest.tokens.items, c.in-Bad.bad, c.loop-rest.rest.now, refl, c.loop-rest.invariant, c.in-Bad.ensures))

pub returns-in-Bad-clause-only : goal.returns-in-Bad-clause-only
returns-in-Bad-clause-only c =
    rw (c.in_ok-push-in-Bad.ensures.items, map_push) (λ ts l. only_stopped (toks c.loop-rest.tokens.items) ts c.in-Bad.bad c.args.bytes.now c.loop-rest.rest.now c.loop-rest.invariant c.in-Bad.ensures l)

pub returns-in-Bad-clause-found : goal.returns-in-Bad-clause-found
returns-in-Bad-clause-found c = rw (c.in_ok-push-in-Bad.ensures.items, map_push) (λ whole. absurd (not_whole (toks c.loop-rest.tokens.items) [] c.in-Bad.bad whole))

pub returns-clause-lexes : goal.returns-clause-lexes
returns-clause-lexes c = inl (whole_text (toks c.loop-rest.tokens.items) c.args.bytes.now c.loop-rest.rest.now (nil_from_length _ (grind arith)) c.loop-rest.invariant)

pub returns-clause-only : goal.returns-clause-only
returns-clause-only c = λ ts l. only_whole (toks c.loop-rest.tokens.items) ts c.args.bytes.now (whole_text (toks c.loop-rest.tokens.items) c.args.bytes.now c.loop-rest.rest.now (nil_from_length _ (grind arith)) c.loop-rest.invariant) l

pub returns-clause-found : goal.returns-clause-found
returns-clause-found c = λ whole. whole_text (toks c.loop-rest.tokens.items) c.args.bytes.now c.loop-rest.rest.now (nil_from_length _ (grind arith)) c.loop-rest.invariant

pub loop-rest-smaller-in-Space : goal.loop-rest-smaller-in-Space
loop-rest-smaller-in-Space c = space_shorter c.loop-rest.rest.now c.in-Space.after.now c.in-Space.ensures
