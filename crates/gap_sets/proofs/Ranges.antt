-- Lists of the numbers in a range that pass a test.
use Rattle.gap_sets.proofs.Vocabulary.{◌≡◌, ℕ, zero, suc, ◌+◌, ◌<◌, ◌≤◌, inl, inr, Bool, true, false, List, ◌∷◌, cond, All, sum_by, refl, ap, arith, length-range_with_len, get_or-range_with_len, filter, range_with_len, cases_lt, sum_by-cons}
use Rattle.std.proofs.lemmas.List.Elements.{All-filter}

-- tests that answer alike in the range give the same list
pub filter_alike : (p r : ℕ → Bool) (a n : ℕ) → ((q : ℕ) → a ≤ q → q < a + n → p q ≡ r q) → filter p (range_with_len a n) ≡ filter r (range_with_len a n)
filter_alike p r a zero each = refl
filter_alike p r a (suc n) each =
    λ i. cond (each a (omega arith) (omega arith) i) (a ∷ filter_alike p r (a + 1) n (λ q low high. each q (omega arith) (omega arith)) i) (filter_alike p r (a + 1) n (λ q low high. each q (omega arith) (omega arith)) i)

-- a number in the range is below its end
pub below_end : (p : ℕ → Bool) (a n m : ℕ) → a + n ≡ m → All (λ q. q < m) (filter p (range_with_len a n))
below_end p a n m e =
    All-filter p (λ q. q < m) (range_with_len a n) (λ k d h. let is = get_or-range_with_len a n k d (omega (arith, length-range_with_len a n)) in omega (arith, length-range_with_len a n))

-- the sum after one number is taken or left
pub sum-cond : (f : ℕ → ℕ) (t : Bool) (x : ℕ) (xs : List ℕ) → sum_by f (cond t (x ∷ xs) xs) ≡ cond t (f x) 0 + sum_by f xs
sum-cond f true x xs = sum_by-cons f x xs
sum-cond f false x xs = omega arith

-- a term that is counted by a test is counted by a weaker test
counted_once : (v w : Bool) (x : ℕ) → (v ≡ true → w ≡ true) → cond v x 0 ≤ cond w x 0
counted_once true false x h = let no = h refl in cc
counted_once v w x h = omega arith

-- fewer terms come to no more
pub sum-le : (f : ℕ → ℕ) (p r : ℕ → Bool) (a n : ℕ) → ((q : ℕ) → p q ≡ true → r q ≡ true) → sum_by f (filter p (range_with_len a n)) ≤ sum_by f (filter r (range_with_len a n))
sum-le f p r a zero within = omega arith
sum-le f p r a (suc n) within =
    let rest = sum-le f p r (a + 1) n within in
    let here = counted_once (p a) (r a) (f a) (within a) in
    let left = sum-cond f (p a) a (filter p (range_with_len (a + 1) n)) in
    let right = sum-cond f (r a) a (filter r (range_with_len (a + 1) n)) in
    omega arith

-- a term that is left out makes the sum less
pub sum-lt : (f : ℕ → ℕ) (p r : ℕ → Bool) (a n gap : ℕ) → ((q : ℕ) → p q ≡ true → r q ≡ true) → a ≤ gap → gap < a + n → p gap ≡ false → r gap ≡ true → 1 ≤ f gap
    → sum_by f (filter p (range_with_len a n)) < sum_by f (filter r (range_with_len a n))
sum-lt f p r a zero gap within low high out here some = absurd (omega arith)
sum-lt f p r a (suc n) gap within low high out here some =
    let left = sum-cond f (p a) a (filter p (range_with_len (a + 1) n)) in
    let right = sum-cond f (r a) a (filter r (range_with_len (a + 1) n)) in
    elim (cases_lt a gap) [
      | inl later ↦
          let rest = sum-lt f p r (a + 1) n gap within (omega arith) (omega arith) out here some in
          let first = counted_once (p a) (r a) (f a) (within a) in
          omega arith
      | inr now ↦
          let is : a ≡ gap = omega arith in
          let rest = sum-le f p r (a + 1) n within in
          let none : cond (p a) (f a) 0 ≡ 0 = rw is (ap (λ t. cond t (f gap) 0) out) in
          let one : cond (r a) (f a) 0 ≡ f gap = rw is (ap (λ t. cond t (f gap) 0) here) in
          omega arith
    ]
