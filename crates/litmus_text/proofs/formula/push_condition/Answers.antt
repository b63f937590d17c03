use Rattle.litmus_text.proofs.Vocabulary.{ℕ, List, ◌++◌, ◌∷◌, [], map, ap, ◌∙◌, flat_map, text_of, Token, sign_of_token, quantifier_pieces, sign_pieces, sign_named, signs_named}
use Rattle.tso_program.specs.declared.atom.Atom.{Atom}
use Rattle.conditions.specs.Grammar.{Sign}
use Rattle.litmus_text.proofs.TextsGrow.{condition_grown}
use Rattle.litmus_text.proofs.formula.push_condition.Goals as goal

pub returns : goal.returns
returns c =
    let names = c.args.names.now.locations in
    let condition = c.args.condition.now in
    let written : List (Sign Atom) → List ℕ = λ ss. text_of (flat_map sign_pieces (map (sign_named names) ss)) in
    let front : List ℕ = (c.args.out.now.items ++ text_of (quantifier_pieces condition.quantifier)) ++ 32 ∷ [] in
    let begun = c.in_ok-push.ensures.items ∙ ap (λ (bs : List ℕ). bs ++ 32 ∷ []) c.in_ok-push_quantifier.ensures in
    c.in_ok-push-2.ensures.items
    ∙ ap (λ (bs : List ℕ). bs ++ 10 ∷ []) (c.in_ok-push_signs.ensures
    ∙ ap (λ (bs : List ℕ). bs ++ written (map sign_of_token c.as_slice.result.now)) begun
    ∙ ap (λ (ts : List Token). front ++ written (map sign_of_token ts)) c.as_slice.ensures.value
    ∙ ap (λ (ss : List (Sign Atom)). front ++ written ss) c.in_ok-signs.ensures)
    ∙ condition_grown c.args.out.now.items condition.quantifier (signs_named names condition.formula)
