-- Readers and the texts that they read, in both directions.
use Rattle.cert_words.proofs.Vocabulary.{◌≡◌, ℕ, zero, suc, Bool, false, List, [], ◌∷◌, ◌++◌, length, Option, Some, refl, sym, ap, ◌∙◌, append_assoc, AllByRecursion, append-nil, same_Some, ◌>>=◌, bind_some, texts_of, is_inner, repeat_at}

-- at the end, or at a byte that fails a test
abbrev pub Stops : (ℕ → Bool) → List ℕ → Type 0
Stops p [] = Unit {0}
Stops p (b ∷ bytes) = p b ≡ false

-- at the end, or at a separator
abbrev pub Starts : List ℕ → Type 0
Starts bytes = Stops is_inner bytes

-- a reader, and the text of each value that it reads
pub record IsExact {A : Type 0} (read : List ℕ → Option (A × List ℕ)) (text : A → List ℕ) (P : A → Type 0) : Type 0 where
  pub takes : (bytes : List ℕ) (x : A × List ℕ) → read bytes ≡ Some x → (bytes ≡ text x.0 ++ x.1) × P x.0
  pub again : (x : A) (rest : List ℕ) → P x → Starts rest → read (text x ++ rest) ≡ Some (x, rest)
  pub starts : (x : A) (rest : List ℕ) → P x → Starts rest → Starts (text x ++ rest)

-- a value that was read
abbrev pub done_with : {A : Type 0} → List ℕ → A → Option (A × List ℕ)
done_with rest x = Some (x, rest)

-- one value after another
abbrev pub two_at : {A B C : Type 0} → (List ℕ → Option (A × List ℕ)) → (List ℕ → Option (B × List ℕ)) → (A → B → C) → List ℕ → Option (C × List ℕ)
two_at r s f bytes = r bytes >>= λ a. s a.1 >>= λ b. Some (f a.0 b.0, b.1)

pub takes_two : {A B C : Type 0} (r : List ℕ → Option (A × List ℕ)) (s : List ℕ → Option (B × List ℕ)) (ta : A → List ℕ) (tb : B → List ℕ) (P : A → Type 0) (Q : B → Type 0) → IsExact r ta P → IsExact s tb Q
    → (f : A → B → C) (bytes : List ℕ) (x : C × List ℕ) → two_at r s f bytes ≡ Some x
    → (a : A) × (b : B) × P a × Q b × (f a b ≡ x.0) × (bytes ≡ ta a ++ (tb b ++ x.1))
takes_two r s ta tb P Q er es f bytes x e =
    let u = bind_some (r bytes) (λ a. s a.1 >>= λ b. Some (f a.0 b.0, b.1)) x e in
    let v = bind_some (s u.0.1) (λ b. Some (f u.0.0 b.0, b.1)) x u.2 in
    let one = er.takes bytes u.0 u.1 in
    let two = es.takes u.0.1 v.0 v.1 in
    let same = same_Some (f u.0.0 v.0.0, v.0.1) x v.2 in
    (u.0.0, v.0.0, one.1, two.1, ap (λ p. p.0) same, one.0 ∙ ap (λ (w : List ℕ). ta u.0.0 ++ w) (two.0 ∙ ap (λ p. tb v.0.0 ++ p.1) same))

pub again_two : {A B C : Type 0} (r : List ℕ → Option (A × List ℕ)) (s : List ℕ → Option (B × List ℕ)) (ta : A → List ℕ) (tb : B → List ℕ) (P : A → Type 0) (Q : B → Type 0) → IsExact r ta P → IsExact s tb Q
    → (f : A → B → C) (a : A) (b : B) (rest : List ℕ) → P a → Q b → Starts rest
    → two_at r s f (ta a ++ (tb b ++ rest)) ≡ Some (f a b, rest)
again_two r s ta tb P Q er es f a b rest pa qb st = rw (er.again a (tb b ++ rest) pa (es.starts b rest qb st), es.again b rest qb st) refl

-- so many values, one after the other
pub repeat_takes : {A : Type 0} (r : List ℕ → Option (A × List ℕ)) (t : A → List ℕ) (P : A → Type 0) → ((bytes : List ℕ) (x : A × List ℕ) → r bytes ≡ Some x → (bytes ≡ t x.0 ++ x.1) × P x.0)
    → (n : ℕ) (found : List A) (bytes : List ℕ) (x : List A × List ℕ) → repeat_at r n found bytes ≡ Some x
    → (more : List A) × (x.0 ≡ found ++ more) × (bytes ≡ texts_of t more ++ x.1) × (length more ≡ n) × AllByRecursion P more
repeat_takes r t P takes zero found bytes x e =
    let same = same_Some (found, bytes) x e in
    ([], sym (ap (λ p. p.0) same) ∙ sym (append-nil found), ap (λ p. p.1) same, refl, tt)
repeat_takes r t P takes (suc n) found bytes x e =
    let u = bind_some (r bytes) (λ y. repeat_at r n (found ++ y.0 ∷ []) y.1) x e in
    let one = takes bytes u.0 u.1 in
    let others = repeat_takes r t P takes n (found ++ u.0.0 ∷ []) u.0.1 x u.2 in
    (u.0.0 ∷ others.0, others.1 ∙ append_assoc found (u.0.0 ∷ []) others.0, one.0 ∙ ap (λ (w : List ℕ). t u.0.0 ++ w) others.2 ∙ sym (append_assoc (t u.0.0) (texts_of t others.0) x.1), ap suc others.3, (one.1, others.4))

-- what may follow the texts of values may follow each of them
pub starts_all : {A : Type 0} (t : A → List ℕ) (P : A → Type 0) → ((x : A) (rest : List ℕ) → P x → Starts rest → Starts (t x ++ rest))
    → (xs : List A) (rest : List ℕ) → AllByRecursion P xs → Starts rest → Starts (texts_of t xs ++ rest)
starts_all t P starts [] rest all st = st
starts_all t P starts (x ∷ xs) rest all st =
    rw (append_assoc (t x) (texts_of t xs) rest) (starts x (texts_of t xs ++ rest) all.0 (starts_all t P starts xs rest all.1 st))

pub repeat_again : {A : Type 0} (r : List ℕ → Option (A × List ℕ)) (t : A → List ℕ) (P : A → Type 0) → IsExact r t P
    → (xs found : List A) (rest : List ℕ) → AllByRecursion P xs → Starts rest → repeat_at r (length xs) found (texts_of t xs ++ rest) ≡ Some (found ++ xs, rest)
repeat_again r t P er [] found rest all st = ap (done_with rest) (sym (append-nil found))
repeat_again r t P er (x ∷ xs) found rest all st =
    let here : r (t x ++ (texts_of t xs ++ rest)) ≡ Some (x, texts_of t xs ++ rest) = er.again x (texts_of t xs ++ rest) all.0 (starts_all t P er.starts xs rest all.1 st) in
    rw (append_assoc (t x) (texts_of t xs) rest, here) (repeat_again r t P er xs (found ++ x ∷ []) rest all.1 st ∙ ap (done_with rest) (append_assoc found (x ∷ []) xs))

-- values whose texts may stand before anything are read again
pub repeat_free : {A : Type 0} (r : List ℕ → Option (A × List ℕ)) (t : A → List ℕ) (P : A → Type 0) → ((x : A) (rest : List ℕ) → P x → r (t x ++ rest) ≡ Some (x, rest))
    → (xs found : List A) (rest : List ℕ) → AllByRecursion P xs → repeat_at r (length xs) found (texts_of t xs ++ rest) ≡ Some (found ++ xs, rest)
repeat_free r t P again [] found rest all = ap (done_with rest) (sym (append-nil found))
repeat_free r t P again (x ∷ xs) found rest all =
    let here : r (t x ++ (texts_of t xs ++ rest)) ≡ Some (x, texts_of t xs ++ rest) = again x (texts_of t xs ++ rest) all.0 in
    rw (append_assoc (t x) (texts_of t xs) rest, here) (repeat_free r t P again xs (found ++ x ∷ []) rest all.1 ∙ ap (done_with rest) (append_assoc found (x ∷ []) xs))
