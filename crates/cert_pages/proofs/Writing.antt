-- Texts that are written piece by piece.
use Rattle.cert_pages.proofs.Vocabulary.{◌≡◌, ℕ, ◌+◌, ◌<◌, List, [], ◌∷◌, ◌++◌, length, get_or, map, take, sym, ap, ◌∙◌, append_assoc, map_more, append-nil, texts_of, texts_append}
pub use Rattle.std.proofs.lemmas.Result.{on_ok_weaker as on_ok}

-- one value more
pub pushed : {A B : Type 0} (t : B → List ℕ) (f : A → B) (xs : List A) (i : ℕ) (d : A) (old a b : List ℕ) → i < length xs → a ≡ old ++ texts_of t (map f (take i xs)) → b ≡ a ++ t (f (get_or xs i d)) → b ≡ old ++ texts_of t (map f (take (i + 1) xs))
pushed t f xs i d old a b lt so e =
    let more : texts_of t (map f (take (i + 1) xs)) ≡ texts_of t (map f (take i xs)) ++ (t (f (get_or xs i d)) ++ []) = ap (texts_of t) (map_more f xs i d lt) ∙ texts_append t (map f (take i xs)) (f (get_or xs i d) ∷ []) in
    e ∙ ap (λ (w : List ℕ). w ++ t (f (get_or xs i d))) so ∙ append_assoc old (texts_of t (map f (take i xs))) (t (f (get_or xs i d)))
    ∙ ap (λ (w : List ℕ). old ++ (texts_of t (map f (take i xs)) ++ w)) (sym (append-nil (t (f (get_or xs i d)))))
    ∙ ap (λ (w : List ℕ). old ++ w) (sym more)

-- ---- a whole certificate, line by line

pub front_written : (a s k q b0 b1 b2 b3 : List ℕ) → b1 ≡ b0 ++ a → b2 ≡ b1 ++ (s ++ k) → b3 ≡ b2 ++ q → b3 ≡ b0 ++ (a ++ (s ++ (k ++ q)))
front_written a s k q b0 b1 b2 b3 e1 e2 e3 =
    let grouped : ((b0 ++ a) ++ (s ++ k)) ++ q ≡ b0 ++ (a ++ (s ++ (k ++ q))) = simp append_assoc in
    e3 ∙ ap (λ (w : List ℕ). w ++ q) (e2 ∙ ap (λ (w : List ℕ). w ++ (s ++ k)) e1) ∙ grouped

pub all_written : (a s k q t r f g b0 b1 b2 b3 b4 b5 : List ℕ) → b1 ≡ b0 ++ (a ++ (s ++ (k ++ q))) → b2 ≡ b1 ++ t → b3 ≡ b2 ++ r → b4 ≡ b3 ++ f → b5 ≡ b4 ++ g
    → b5 ≡ b0 ++ (a ++ (s ++ (k ++ (q ++ (t ++ (r ++ (f ++ g)))))))
all_written a s k q t r f g b0 b1 b2 b3 b4 b5 e1 e2 e3 e4 e5 =
    let grouped : ((((b0 ++ (a ++ (s ++ (k ++ q)))) ++ t) ++ r) ++ f) ++ g ≡ b0 ++ (a ++ (s ++ (k ++ (q ++ (t ++ (r ++ (f ++ g))))))) = simp append_assoc in
    e5 ∙ ap (λ (w : List ℕ). w ++ g) (e4 ∙ ap (λ (w : List ℕ). w ++ f) (e3 ∙ ap (λ (w : List ℕ). w ++ r) (e2 ∙ ap (λ (w : List ℕ). w ++ t) e1))) ∙ grouped

-- ---- more bytes on the page that comes after the full ones

pub wrote : (full a b w : List ℕ) → b ≡ a ++ w → full ++ b ≡ (full ++ a) ++ w
wrote full a b w e = ap (λ (v : List ℕ). full ++ v) e ∙ sym (append_assoc full a w)
