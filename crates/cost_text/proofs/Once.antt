-- Lists of numbers in which none stands twice, and the least of some numbers.
use Rattle.cost_text.proofs.Vocabulary.{◌≡◌, ◌≢◌, ◌==◌, ◌||◌, ◌⊎◌, ◌∙◌, ℕ, ◌+◌, ◌<◌, ◌≤◌, Bool, true, false, min, List, [], ◌∷◌, ◌++◌, length, get_or, AllPairs, list_any, refl, sym, ap, subst, arith, inl, inr, least_of}
use Rattle.cost_text.proofs.Vocabulary.{all_pairs_push, length-append, get_or_append_left, get_or-append-add, get_or_default, Any-from_list_any, list_any_at, list_any-append, or_cases, or_right, cases_lt, eq-eqb, eqb-true}

abbrev pub NoneTwice : List ℕ → Type 0
NoneTwice xs = AllPairs (λ a b. a ≢ b) xs

-- whether a list has a number
abbrev pub has : List ℕ → ℕ → Bool
has xs n = list_any (λ other. other == n) xs

-- where it stands
record StandsIn (xs : List ℕ) (n : ℕ) : Type 0 where
  at : ℕ
  within : at < length xs
  is : get_or xs at 0 ≡ n

stands : (xs : List ℕ) (n : ℕ) → has xs n ≡ true → StandsIn xs n
stands xs n there =
    let a = Any-from_list_any (λ other. other == n) xs there in
    record { at = a.0; within = a.2; is = get_or_default xs a.0 0 a.1 a.2 ∙ a.3 ∙ eqb-true a.1 n a.4 }

-- a number is in one of two parts alone
pub apart : (xs ys : List ℕ) (n : ℕ) → NoneTwice (xs ++ ys) → has xs n ≡ true → has ys n ≡ true → ⊥
apart xs ys n once here there =
    let a = stands xs n here in
    let b = stands ys n there in
    let before : a.at < length xs + b.at = omega (arith, a.within) in
    let within : length xs + b.at < length (xs ++ ys) = omega (arith, b.within, length-append xs ys) in
    once a.at (length xs + b.at) 0 before within (get_or_append_left xs ys 0 a.at a.within ∙ a.is ∙ sym (get_or-append-add xs ys b.at 0 ∙ b.is))

pub front : (xs ys : List ℕ) → NoneTwice (xs ++ ys) → NoneTwice xs
front xs ys once i j d lt within same =
    let long : j < length (xs ++ ys) = omega (arith, within, length-append xs ys) in
    let less : i < length xs = omega (arith, lt, within) in
    once i j d lt long (get_or_append_left xs ys d i less ∙ same ∙ sym (get_or_append_left xs ys d j within))

pub back : (xs ys : List ℕ) → NoneTwice (xs ++ ys) → NoneTwice ys
back xs ys once i j d lt within same =
    let less : length xs + i < length xs + j = omega (arith, lt) in
    let long : length xs + j < length (xs ++ ys) = omega (arith, within, length-append xs ys) in
    once (length xs + i) (length xs + j) d less long (get_or-append-add xs ys i d ∙ same ∙ sym (get_or-append-add xs ys j d))

-- what does not stand yet may stand
pub fresh : (xs : List ℕ) (n : ℕ) → NoneTwice xs → has xs n ≡ false → NoneTwice (xs ++ n ∷ [])
fresh xs n once new =
    all_pairs_push (λ a b. a ≢ b) xs n once (λ k d lt same. let bad = sym new ∙ list_any_at (λ other. other == n) xs k d lt (eq-eqb (get_or xs k d) n same) in cc)

pub itself : (n : ℕ) (ys : List ℕ) → has (n ∷ ys) n ≡ true
itself n ys = rw (eq-eqb n n refl) refl

-- what stands may not stand again
pub twice : (xs : List ℕ) (n : ℕ) → has xs n ≡ true → NoneTwice (xs ++ n ∷ []) → ⊥
twice xs n there once = apart xs (n ∷ []) n once there (itself n [])

pub has_left : (xs ys : List ℕ) (n : ℕ) → has xs n ≡ true → has (xs ++ ys) n ≡ true
has_left xs ys n there = list_any-append (λ other. other == n) xs ys ∙ ap (λ (v : Bool). v || has ys n) there

pub has_right : (xs ys : List ℕ) (n : ℕ) → has ys n ≡ true → has (xs ++ ys) n ≡ true
has_right xs ys n there = list_any-append (λ other. other == n) xs ys ∙ or_right (has xs n) (has ys n) there

pub has_neither : (xs ys : List ℕ) (n : ℕ) → has xs n ≡ false → has ys n ≡ false → has (xs ++ ys) n ≡ false
has_neither xs ys n here there = list_any-append (λ other. other == n) xs ys ∙ ap (λ (v : Bool). v || has ys n) here ∙ there

-- ---- the least of some numbers

pub least_le : (xs : List ℕ) (d : ℕ) → least_of xs d ≤ d
least_le [] d = omega arith
least_le (x ∷ xs) d = omega (arith, least_le xs (min x d))

pub least_below : (xs : List ℕ) (d n : ℕ) → has xs n ≡ true → least_of xs d ≤ n
least_below [] d n there = absurd cc
least_below (x ∷ xs) d n there = elim (or_cases (x == n) (has xs n) there) [
  | inl here ↦ omega (arith, least_le xs (min x d), eqb-true x n here)
  | inr later ↦ least_below xs (min x d) n later
]

least_is : (xs : List ℕ) (d : ℕ) → (least_of xs d ≡ d) ⊎ (has xs (least_of xs d) ≡ true)
least_is [] d = inl refl
least_is (x ∷ xs) d = elim (least_is xs (min x d)) [
  | inl same ↦ elim (cases_lt x d) [
    | inl less ↦ let is : x ≡ least_of xs (min x d) = omega (arith, same, less) in inr (ap (λ (v : Bool). v || has xs (least_of xs (min x d))) (eq-eqb x (least_of xs (min x d)) is))
    | inr not_less ↦ inl (omega (arith, same, not_less))
  ]
  | inr there ↦ inr (or_right (x == least_of xs (min x d)) (has xs (least_of xs (min x d))) there)
]

-- the least of some numbers and one that is no less than one of them is one of them
pub least_there : (xs : List ℕ) (d n : ℕ) → has xs n ≡ true → n ≤ d → has xs (least_of xs d) ≡ true
least_there xs d n there le = elim (least_is xs d) [
  | inl same ↦ let is : n ≡ least_of xs d = omega (arith, same, le, least_below xs d n there) in subst (λ (m : ℕ). has xs m ≡ true) is there
  | inr in_it ↦ in_it
]

-- a number more, no less than one of them, changes nothing
pub least_alike : (xs : List ℕ) (a b : ℕ) → b ≤ a → has xs b ≡ true → least_of xs a ≡ least_of xs b
least_alike xs a b le there =
    let one : least_of xs a ≤ least_of xs b = least_below xs a (least_of xs b) (least_there xs b b there (omega arith)) in
    let two : least_of xs b ≤ least_of xs a = least_below xs b (least_of xs a) (least_there xs a b there le) in
    omega (arith, one, two)

pub least_push : (xs : List ℕ) (x d : ℕ) → least_of (xs ++ x ∷ []) d ≡ min x (least_of xs d)
least_push [] x d = refl
least_push (y ∷ xs) x d = least_push xs x (min y d)
