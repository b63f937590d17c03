-- Two tests of numbers agree, or there is a first number at which they differ.
use Rattle.gap_sets.proofs.Vocabulary.{◌≡◌, ◌≢◌, ℕ, zero, suc, ◌<◌, ◌≤◌, ◌⊎◌, inl, inr, Bool, true, false, refl, sym, ◌∙◌, arith, cases_lt}

-- they answer alike below n
abbrev pub AlikeBelow : (ℕ → Bool) → (ℕ → Bool) → ℕ → Type 0
AlikeBelow p q n = (k : ℕ) → k < n → p k ≡ q k

-- two answers are equal or differ
same_or_not : (v w : Bool) → (v ≡ w) ⊎ (v ≢ w)
same_or_not true false = inr (λ e. cc)
same_or_not false true = inr (λ e. cc)
same_or_not v w = inl refl

-- alike below n and at n
more_alike : (p q : ℕ → Bool) (n : ℕ) → AlikeBelow p q n → p n ≡ q n → AlikeBelow p q (suc n)
more_alike p q n alike here k h = elim (cases_lt k n) [ inl below ↦ alike k below | inr last ↦ let same : k ≡ n = omega arith in rw same here ]

-- alike below n, or a first number at which they differ
pub first_difference : (p q : ℕ → Bool) (n : ℕ) → AlikeBelow p q n ⊎ ((g : ℕ) × (p g ≢ q g) × AlikeBelow p q g)
first_difference p q zero = inl (λ k h. absurd (omega arith))
first_difference p q (suc n) =
    elim (first_difference p q n) [
      | inr found ↦ inr found
      | inl alike ↦ elim (same_or_not (p n) (q n)) [ inl same ↦ inl (more_alike p q n alike same) | inr differ ↦ inr (n, differ, alike) ]
    ]

-- a test that passes below n alone fails from n on
fails_beyond : (b : Bool) (k n : ℕ) → n ≤ k → (b ≡ true → k < n) → b ≡ false
fails_beyond true k n h only = let low = only refl in absurd (omega arith)
fails_beyond false k n h only = refl

-- alike below n and both failing from n on
pub alike_beyond : (p q : ℕ → Bool) (n : ℕ) → AlikeBelow p q n → ((k : ℕ) → p k ≡ true → k < n) → ((k : ℕ) → q k ≡ true → k < n) → (k : ℕ) → p k ≡ q k
alike_beyond p q n alike only_p only_q k =
    elim (cases_lt k n) [ inl below ↦ alike k below | inr beyond ↦ fails_beyond (p k) k n beyond (only_p k) ∙ sym (fails_beyond (q k) k n beyond (only_q k)) ]
