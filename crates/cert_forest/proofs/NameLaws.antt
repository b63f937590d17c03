-- Names of accesses, kinds of cycles and labels: what the reader takes of each, and that it takes each again.
use Rattle.cert_forest.proofs.Vocabulary.{◌≡◌, ℕ, ◌<◌, ◌==◌, Bool, true, false, cond, List, [], ◌∷◌, ◌++◌, length, take, drop, Some, None, refl, sym, ap, subst, ◌∙◌, arith, inl, inr, list_all, prefix_len, and_parts, and_from, eqb-true, take_at, drop_at}
use Rattle.cert_forest.proofs.Vocabulary.{take-append-drop, digits_decimal, decimal, nat_tests, Kind, Label, spaced, ◌>>=◌, is_inner, letter_at, bind_some, by_test, cond_some, same_Some, Starts, IsExact, AccessId, IsAccessId, own, plain_number_takes}
use Rattle.cert_forest.proofs.Vocabulary.{plain_number_again, plain_number_at, spelling, IsLabel, label_at, prefix_is, after_prefix, decimal_inner, letter_takes, letter_again, spaced_exact, access_word, kind_word, is_no_stop, access_tail, access_of, access_at}
use Rattle.cert_forest.proofs.Vocabulary.{kind_of, kind_at, label_word_at}
use Rattle.std.specs.Char.{is_ascii_digit}
use Rattle.cert_trees.specs.Kind.TheVariants as kinds
use Rattle.tso_machine.specs.declared.label.Label.{TheVariants.Exec, TheVariants.Flush}
use Rattle.tso_machine.proofs.RunLabels.{label_takes, label_again}

-- ---- accesses

digit_no_stop : (c : ℕ) → is_ascii_digit c ≡ true → is_no_stop c ≡ true
digit_no_stop c h = grind (arith, nat_tests)

digits_no_stop : (ds : List ℕ) → list_all is_ascii_digit ds ≡ true → list_all is_no_stop ds ≡ true
digits_no_stop [] all = refl
digits_no_stop (d ∷ ds) all =
    let a = and_parts (is_ascii_digit d) (list_all is_ascii_digit ds) all in
    and_from (is_no_stop d) (list_all is_no_stop ds) (digit_no_stop d a.0) (digits_no_stop ds a.1)

is_stop : (b : ℕ) → is_no_stop b ≡ false → b ≡ 46
is_stop b h = grind (arith, nat_tests)

tail_takes : (t : ℕ) (tail : List ℕ) (e : AccessId) → ((b : ℕ) (ys : List ℕ) → tail ≡ b ∷ ys → b ≡ 46) → access_tail t tail ≡ Some e → (tail ≡ 46 ∷ decimal e.access) × (e.thread ≡ t) × (e.access < 256)
tail_takes t [] e first h = absurd cc
tail_takes t (b ∷ ds) e first h =
    let a = bind_some (plain_number_at 255 ds) (λ n. Some (record { thread = t; access = n })) e h in
    let n = plain_number_takes 255 a.0 ds (omega arith) a.1 in
    let made : AccessId = record { thread = t; access = a.0 } in
    let same : made ≡ e = same_Some made e a.2 in
    let stop : b ≡ 46 = first b ds refl in
    let small : a.0 < 256 = omega (arith, n.1) in
    let text : b ∷ ds ≡ 46 ∷ decimal a.0 = λ i. stop i ∷ n.0 i in
    subst (λ (y : AccessId). (b ∷ ds ≡ 46 ∷ decimal y.access) × (y.thread ≡ t) × (y.access < 256)) same (text, refl, small)

access_of_takes : (word : List ℕ) (e : AccessId) → access_of word ≡ Some e → (word ≡ access_word e) × IsAccessId e
unfolding access_of
access_of_takes word e h =
    let n = prefix_len is_no_stop word in
    let a = bind_some (plain_number_at 255 (take n word)) (λ t. access_tail t (drop n word)) e h in
    let t = plain_number_takes 255 a.0 (take n word) (omega arith) a.1 in
    let tail = tail_takes a.0 (drop n word) e (λ b ys is. is_stop b (after_prefix is_no_stop word b ys is)) a.2 in
    let small : e.thread < 256 = omega (arith, t.1, tail.1) in
    let first : take n word ≡ decimal e.thread = t.0 ∙ ap decimal (sym tail.1) in
    (sym (take-append-drop n word) ∙ (λ i. first i ++ tail.0 i), (small, tail.2))

access_of_again : (e : AccessId) → IsAccessId e → access_of (access_word e) ≡ Some e
unfolding access_of
access_of_again e fits =
    let digits : list_all is_no_stop (decimal e.thread) ≡ true = digits_no_stop (decimal e.thread) (digits_decimal own e.thread (omega (arith, fits.0))) in
    let len : prefix_len is_no_stop (access_word e) ≡ length (decimal e.thread) = prefix_is is_no_stop (decimal e.thread) (46 ∷ decimal e.access) digits refl in
    let first : take (length (decimal e.thread)) (access_word e) ≡ decimal e.thread = take_at (decimal e.thread) (46 ∷ decimal e.access) (length (decimal e.thread)) refl in
    let second : drop (length (decimal e.thread)) (access_word e) ≡ 46 ∷ decimal e.access = drop_at (decimal e.thread) (46 ∷ decimal e.access) (length (decimal e.thread)) refl in
    let t : plain_number_at 255 (decimal e.thread) ≡ Some e.thread = plain_number_again 255 e.thread (omega arith) (omega (arith, fits.0)) in
    let i : plain_number_at 255 (decimal e.access) ≡ Some e.access = plain_number_again 255 e.access (omega arith) (omega (arith, fits.1)) in
    rw (len, first, second, t, i) refl

all_join : (p : ℕ → Bool) (xs ys : List ℕ) → list_all p xs ≡ true → list_all p ys ≡ true → list_all p (xs ++ ys) ≡ true
all_join p [] ys a b = b
all_join p (x ∷ xs) ys a b = let both = and_parts (p x) (list_all p xs) a in and_from (p x) (list_all p (xs ++ ys)) both.0 (all_join p xs ys both.1 b)

access_inner : (e : AccessId) → IsAccessId e → list_all is_inner (access_word e) ≡ true
access_inner e fits =
    let second : list_all is_inner (decimal e.access) ≡ true = decimal_inner e.access (omega (arith, fits.1)) in
    all_join is_inner (decimal e.thread) (46 ∷ decimal e.access) (decimal_inner e.thread (omega (arith, fits.0))) second

abbrev pub access_text : AccessId → List ℕ
access_text e = spaced (access_word e)

pub access_exact : IsExact access_at access_text IsAccessId
unfolding access_at
access_exact =
    let s = spaced_exact access_of access_word IsAccessId access_of_takes access_of_again access_inner in
    record { takes = s.takes; again = s.again; starts = s.starts }

-- ---- kinds

kind_of_takes : (b : ℕ) (k : Kind) → kind_of b ≡ Some k → b ∷ [] ≡ kind_word k
kind_of_takes b k e =
    elim (by_test (b == 115) (Some kinds.Sequential) (cond (b == 108) (Some kinds.Location) (cond (b == 103) (Some kinds.Global) None)) (Some k) e) [
      | inl h ↦ let first : b ≡ 115 = eqb-true _ _ h.0 in (λ i. first i ∷ []) ∙ ap kind_word (same_Some kinds.Sequential k h.1)
      | inr h ↦ elim (by_test (b == 108) (Some kinds.Location) (cond (b == 103) (Some kinds.Global) None) (Some k) h.1) [
        | inl g ↦ let first : b ≡ 108 = eqb-true _ _ g.0 in (λ i. first i ∷ []) ∙ ap kind_word (same_Some kinds.Location k g.1)
        | inr g ↦
            let l = cond_some (b == 103) kinds.Global k g.1 in
            let first : b ≡ 103 = eqb-true _ _ l.0 in (λ i. first i ∷ []) ∙ ap kind_word l.1
      ]
    ]

abbrev pub kind_text : Kind → List ℕ
kind_text k = spaced (kind_word k)

kind_again : (k : Kind) (rest : List ℕ) → Starts rest → kind_at (kind_text k ++ rest) ≡ Some (k, rest)
unfolding kind_at
kind_again kinds.Sequential rest st = rw (letter_again 115 rest refl st) refl
kind_again kinds.Location rest st = rw (letter_again 108 rest refl st) refl
kind_again kinds.Global rest st = rw (letter_again 103 rest refl st) refl

kind_starts : (k : Kind) (rest : List ℕ) → Starts (kind_text k ++ rest)
kind_starts k rest = refl

pub kind_exact : IsExact kind_at kind_text (λ k. Unit {0})
unfolding kind_at
kind_exact = record { takes = taken; again = λ k rest _ st. kind_again k rest st; starts = λ k rest _ st. kind_starts k rest }
  where
    taken : (bytes : List ℕ) (x : Kind × List ℕ) → kind_at bytes ≡ Some x → (bytes ≡ kind_text x.0 ++ x.1) × Unit {0}
    taken bytes x e =
        let a = bind_some (letter_at bytes) (λ letter. kind_of letter.0 >>= λ kind. Some (kind, letter.1)) x e in
        let b = bind_some (kind_of a.0.0) (λ kind. Some (kind, a.0.1)) x a.2 in
        let here : bytes ≡ kind_text b.0 ++ a.0.1 = letter_takes bytes a.0 a.1 ∙ ap (λ (v : List ℕ). spaced v ++ a.0.1) (kind_of_takes a.0.0 b.0 b.1) in
        subst (λ (y : Kind × List ℕ). (bytes ≡ kind_text y.0 ++ y.1) × Unit {0}) (same_Some (b.0, a.0.1) x b.2) (here, tt)

-- ---- labels

abbrev pub label_text : Label → List ℕ
label_text l = spaced (spelling l)

label_inner : (l : Label) → IsLabel l → list_all is_inner (spelling l) ≡ true
label_inner (Exec t) fits = decimal_inner t (omega arith)
label_inner (Flush t) fits = decimal_inner t (omega arith)

pub label_exact : IsExact label_word_at label_text IsLabel
unfolding label_word_at
label_exact =
    let s = spaced_exact label_at spelling IsLabel (λ w l e. let t = label_takes w l e in (sym t.0, t.1)) label_again label_inner in
    record { takes = s.takes; again = s.again; starts = s.starts }
