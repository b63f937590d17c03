use Rattle.litmus_text.proofs.Vocabulary.{ℕ, List, ◌++◌, get_or, ap, ◌∙◌, text_of, Eax, Token, sign_of_token, sign_pieces, sign_named}
use Rattle.tso_program.specs.declared.atom.Atom.TheVariants as atom
use Rattle.conditions.specs.declared.token.Token.TheVariants as token
use Rattle.litmus_text.proofs.TextsGrow.{given_more}
use Rattle.litmus_text.proofs.formula.push_signs.Goals as goal

pub loop-sign-preserved : goal.loop-sign-preserved
loop-sign-preserved c =
    let named = sign_named c.args.names.now.locations in
    let first : Token = token.Atom (atom.Register 0 Eax 0) in
    let i = c.loop-sign.sign-index in
    c.in_ok-push_sign.ensures
    ∙ ap (λ (bs : List ℕ). bs ++ text_of (sign_pieces (named (sign_of_token (get_or c.args.signs.now i first))))) c.loop-sign.invariant
    ∙ given_more sign_pieces named sign_of_token c.args.out.now.items c.args.signs.now i first c.loop-sign-test.true
