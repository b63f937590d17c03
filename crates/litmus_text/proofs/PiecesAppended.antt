-- Pieces after pieces.
use Rattle.litmus_text.proofs.Vocabulary.{◌≡◌, List, [], ◌∷◌, ◌++◌, refl, sym, ap, ◌∙◌, subst, append_assoc, ℕ, Piece, Space, Part, token_text, text_of, CanStand, AreApartBefore}

pub text_of-append : (ps qs : List Piece) → text_of (ps ++ qs) ≡ text_of ps ++ text_of qs
text_of-append [] qs = refl
text_of-append (Space b ∷ ps) qs = ap (λ (x : List ℕ). b ∷ x) (text_of-append ps qs)
text_of-append (Part t ∷ ps) qs = ap (λ (x : List ℕ). token_text t ++ x) (text_of-append ps qs) ∙ sym (append_assoc (token_text t) (text_of ps) (text_of qs))

pub AreApartBefore-append : (ps qs : List Piece) (rest : List ℕ) → AreApartBefore ps (text_of qs ++ rest) → AreApartBefore qs rest → AreApartBefore (ps ++ qs) rest
AreApartBefore-append [] qs rest h g = g
AreApartBefore-append (Space b ∷ ps) qs rest h g = (h.0, AreApartBefore-append ps qs rest h.1 g)
AreApartBefore-append (Part t ∷ ps) qs rest h g =
    let same : text_of ps ++ (text_of qs ++ rest) ≡ text_of (ps ++ qs) ++ rest = sym (append_assoc (text_of ps) (text_of qs) rest) ∙ ap (λ (x : List ℕ). x ++ rest) (sym (text_of-append ps qs)) in
    (subst (CanStand t) same h.0, AreApartBefore-append ps qs rest h.1 g)
