-- Elements of lists.
use Rattle.the_answer.proofs.Vocabulary.{◌≡◌, ℕ, ◌+◌, ◌<◌, Bool, true, false, ◌&&◌, List, [], ◌∷◌, map, Contains, flat_map, refl, sym, ◌∙◌, subst, inl, inr, arith, list_all, range_with_len, Contains-append_left, Contains-append_right, Contains-append_cases}
use Rattle.the_answer.proofs.Vocabulary.{none_here, first_or_later, first_is_here, later_is_here}
use Rattle.std.proofs.lemmas.List.FromFn.{length-range_with_len, get_or-range_with_len}
pub use Rattle.std.proofs.lemmas.Bool.{and_parts as both}

-- what is in one of the joined lists is in the whole
pub in_flat_map : {A B : Type 0} (f : A → List B) (xs : List A) (x : A) (y : B) → Contains xs x → Contains (f x) y → Contains (flat_map f xs) y
in_flat_map f [] x y here there = absurd (none_here x here)
in_flat_map {A} {B} f (z ∷ zs) x y here there = elim (first_or_later z zs x here) [
  | inl e ↦ Contains-append_left (f z) (flat_map f zs) y (subst (λ (w : A). Contains (f w) y) (sym e) there)
  | inr later ↦ Contains-append_right (f z) (flat_map f zs) y (in_flat_map f zs x y later there)
]

-- and the other way round
pub from_flat_map : {A B : Type 0} (f : A → List B) (xs : List A) (y : B) → Contains (flat_map f xs) y → (x : A) × Contains xs x × Contains (f x) y
from_flat_map f [] y here = absurd (none_here y here)
from_flat_map f (z ∷ zs) y here = elim (Contains-append_cases (f z) (flat_map f zs) y here) [
  | inl first ↦ (z, first_is_here z zs, first)
  | inr others ↦ let (x, later, there) = from_flat_map f zs y others in (x, later_is_here z zs x later, there)
]

-- the numbers below another
pub below_is_here : (n k : ℕ) → k < n → Contains (range_with_len 0 n) k
below_is_here n k h = (k, omega (arith, length-range_with_len 0 n), get_or-range_with_len 0 n k k h ∙ (let same : 0 + k ≡ k = omega arith in same))

-- a test that each element passes
pub each_passes : {A : Type 0} (test : A → Bool) (xs : List A) (x : A) → list_all test xs ≡ true → Contains xs x → test x ≡ true
each_passes test [] x all here = absurd (none_here x here)
each_passes {A} test (y ∷ ys) x all here =
    let parts = both (test y) (list_all test ys) all in
    elim (first_or_later y ys x here) [ inl e ↦ subst (λ (z : A). test z ≡ true) e parts.0 | inr later ↦ each_passes test ys x parts.1 later ]

pub all_pass : {A : Type 0} (test : A → Bool) (xs : List A) → ((x : A) → Contains xs x → test x ≡ true) → list_all test xs ≡ true
all_pass test [] each = refl
all_pass test (y ∷ ys) each = (λ i. each y (first_is_here y ys) i && list_all test ys) ∙ all_pass test ys (λ x here. each x (later_is_here y ys x here))

-- one element fails a test that not all pass
pub one_fails : {A : Type 0} (test : A → Bool) (xs : List A) → list_all test xs ≡ false → (x : A) × Contains xs x × (test x ≡ false)
one_fails test [] e = absurd cc
one_fails {A} test (y ∷ ys) e = by_test (test y) refl e (one_fails test ys)
  where
    by_test : (b : Bool) → test y ≡ b → (b && list_all test ys) ≡ false → (list_all test ys ≡ false → (x : A) × Contains ys x × (test x ≡ false)) → (x : A) × Contains (y ∷ ys) x × (test x ≡ false)
    by_test true is others rest = let (x, here, fails) = rest others in (x, later_is_here y ys x here, fails)
    by_test false is others rest = (y, first_is_here y ys, is)

-- what is in a mapped list comes from an element
pub from_mapped : {A B : Type 0} (f : A → B) (xs : List A) (y : B) → Contains (map f xs) y → (x : A) × Contains xs x × (y ≡ f x)
from_mapped f [] y here = absurd (none_here y here)
from_mapped f (z ∷ zs) y here = elim (first_or_later (f z) (map f zs) y here) [
  | inl e ↦ (z, first_is_here z zs, sym e)
  | inr later ↦ let (x, there, is) = from_mapped f zs y later in (x, later_is_here z zs x there, is)
]
