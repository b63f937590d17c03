use Rattle.conditions.proofs.Vocabulary.{◌≡◌, List, [], ◌∷◌, ap, sym, ◌∙◌, map, reverse, Token, sign_of_token, formula_tokens}
use Rattle.conditions.specs.declared.token.Token.{TheVariants.Open, TheVariants.Close}
use Rattle.conditions.proofs.{Unwound.reverse_push, CanonicalSigns.tokens_enclosed}
use Rattle.conditions.proofs.writer.enclosed_tokens.Goals as goal

pub returns : goal.returns
returns c = λ f is.
    let close : reverse c.push.new.self.items ≡ Close ∷ [] =
    ap (λ (ts : List Token). reverse ts) c.in_ok-push.ensures.items ∙ reverse_push c.new-tokens.result.items Close ∙ ap (λ (ts : List Token). Close ∷ reverse ts) c.new-tokens.ensures.items in
    let written = c.in_ok-unwind_all.ensures f is ∙ ap (λ (ts : List Token). formula_tokens f ts) close in
    let open_first = ap (λ (ts : List Token). reverse ts) c.in_ok-push-2.ensures.items ∙ reverse_push c.unwind_all.new.tokens.items Open ∙ ap (λ (ts : List Token). Open ∷ ts) written in
    ap (λ (ts : List Token). map sign_of_token ts) (c.reverse.ensures.items ∙ open_first) ∙ tokens_enclosed f (sym (c.is_joined.ensures f is) ∙ c.if-is_joined.false)
