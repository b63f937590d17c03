use Rattle.conditions.proofs.Vocabulary.{List, ap, ◌∙◌, map, reverse, Token, sign_of_token, formula_tokens}
use Rattle.conditions.proofs.CanonicalSigns.{tokens_whole}
use Rattle.conditions.proofs.writer.tokens.Goals as goal

pub returns : goal.returns
returns c = λ f is.
    ap (λ (ts : List Token). map sign_of_token ts)
    (c.reverse.ensures.items ∙ c.in_ok-unwind_all.ensures f is ∙ ap (λ (ts : List Token). formula_tokens f (reverse ts)) c.new-tokens.ensures.items)
    ∙ tokens_whole f
