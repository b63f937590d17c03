-- What the single tokens at the front of a list take, and that they take it again.
use Rattle.text_tokens.proofs.Vocabulary.{◌≡◌, ◌≢◌, ℕ, ◌==◌, true, false, List, ◌∷◌, refl, sym, ap, ◌∙◌, Some, if◌then◌else◌, eqb-true, cond_some, Mark, OpenBrace, CloseBrace, OpenBracket, CloseBracket, OpenParen, CloseParen, Semicolon, Bar, Colon, Equals}
use Rattle.text_tokens.proofs.Vocabulary.{Comma, Dollar, Tilde, And, Or, Tok, Word, Number, Sign, mark_code, same_mark, false_from_ne_true as false_from, eq-eqb, same_Some}
use Rattle.text_tokens.specs.Parts.{word_at, number_at, begins_with, rest_of, mark_at}

-- ---- words and numbers

pub word_takes : (ts : List Tok) (x : List ℕ × List Tok) → word_at ts ≡ Some x → ts ≡ Word x.0 ∷ x.1
word_takes (Word w ∷ ts) x e = ap (λ (p : List ℕ × List Tok). Word p.0 ∷ p.1) (same_Some (w, ts) x e)
word_takes ts x e = absurd cc

pub number_takes : (ts : List Tok) (x : ℕ × List Tok) → number_at ts ≡ Some x → ts ≡ Number x.0 ∷ x.1
number_takes (Number n ∷ ts) x e = ap (λ (p : ℕ × List Tok). Number p.0 ∷ p.1) (same_Some (n, ts) x e)
number_takes ts x e = absurd cc

pub number_again : (ts : List Tok) (n : ℕ) (rest : List Tok) → ts ≡ Number n ∷ rest → number_at ts ≡ Some (n, rest)
number_again ts n rest e = ap number_at e

-- ---- marks

mark_back : ℕ → Mark
mark_back n =
    if n == 0 then OpenBrace else if n == 1 then CloseBrace else if n == 2 then OpenBracket else if n == 3 then CloseBracket else
    if n == 4 then OpenParen else if n == 5 then CloseParen else if n == 6 then Semicolon else if n == 7 then Bar else
    if n == 8 then Colon else if n == 9 then Equals else if n == 10 then Comma else if n == 11 then Dollar else
    if n == 12 then Tilde else if n == 13 then And else Or

mark_again_code : (m : Mark) → mark_back (mark_code m) ≡ m
unfolding mark_back
mark_again_code OpenBrace = refl
mark_again_code m = refl

-- marks are compared by what they are
pub same_mark_is : (m n : Mark) → same_mark m n ≡ true → m ≡ n
same_mark_is m n e = sym (mark_again_code m) ∙ ap mark_back (eqb-true (mark_code m) (mark_code n) e) ∙ mark_again_code n

pub same_mark_itself : (m : Mark) → same_mark m m ≡ true
same_mark_itself m = eq-eqb (mark_code m) (mark_code m) refl

pub begins_takes : (m : Mark) (ts : List Tok) → begins_with m ts ≡ true → ts ≡ Sign m ∷ rest_of ts
begins_takes m (Sign k ∷ ts) e = ap (λ (x : Mark). Sign x ∷ ts) (same_mark_is k m e)
begins_takes m ts e = absurd cc

pub begins_again : (m : Mark) (ts rest : List Tok) → ts ≡ Sign m ∷ rest → begins_with m ts ≡ true
begins_again m ts rest e = ap (begins_with m) e ∙ same_mark_itself m

pub begins_other : (m n : Mark) (ts rest : List Tok) → ts ≡ Sign n ∷ rest → n ≢ m → begins_with m ts ≡ false
begins_other m n ts rest e h = ap (begins_with m) e ∙ false_from (same_mark n m) (λ e. h (same_mark_is n m e))

pub mark_takes : (m : Mark) (ts rest : List Tok) → mark_at m ts ≡ Some rest → ts ≡ Sign m ∷ rest
mark_takes m ts rest e =
    let p = cond_some (begins_with m ts) (rest_of ts) rest e in
    begins_takes m ts p.0 ∙ ap (λ (x : List Tok). Sign m ∷ x) p.1

pub mark_again : (m : Mark) (ts rest : List Tok) → ts ≡ Sign m ∷ rest → mark_at m ts ≡ Some rest
mark_again m ts rest e = ap (mark_at m) e ∙ rw (same_mark_itself m) refl
