-- Bits of rows.
use Rattle.std.proofs.Common.{◌≡◌, ◌⊎◌, ◌||◌, ℕ, zero, suc, ◌<◌, ◌≤◌, Bool, true, false, List, [], ◌∷◌, length, refl, sym, ap, ◌∙◌, subst, inl, inr, arith, get_or-set_same}
use Rattle.std.proofs.lemmas.Bool.{or_cases, or_left, or_right}
use Rattle.std.specs.Prelude.{slice_index_or, slice_set}
use Rattle.tso_program.specs.declared.instruction.TheConstants.{REGISTERS}
use Rattle.held_values.specs.HeldRows.{has, either, with_bit}

-- an element after one was put in its place or another
pub set_case : {A : Type 0} (xs : List A) (n : ℕ) (y : A) (j : ℕ) (d : A) → ((n ≡ j) × (slice_index_or (slice_set xs n y) j d ≡ y)) ⊎ (slice_index_or (slice_set xs n y) j d ≡ slice_index_or xs j d)
set_case [] n y j d = inr refl
set_case (x ∷ xs) zero y zero d = inl (refl, refl)
set_case (x ∷ xs) zero y (suc j) d = inr refl
set_case (x ∷ xs) (suc n) y zero d = inr refl
set_case (x ∷ xs) (suc n) y (suc j) d = elim (set_case xs n y j d) [ inl h ↦ inl (ap suc h.0, h.1) | inr h ↦ inr h ]

-- a bit that is set after one was put in
pub bit_case : (row : List Bool) (n : ℕ) (b : Bool) (i : ℕ) → has (slice_set row n b) i ≡ true → ((n ≡ i) × (b ≡ true)) ⊎ ((n ≡ i → ⊥) × (has row i ≡ true))
bit_case [] n b i h = absurd cc
bit_case (x ∷ xs) zero b zero h = inl (refl, h)
bit_case (x ∷ xs) zero b (suc i) h = inr ((λ e. omega arith), h)
bit_case (x ∷ xs) (suc n) b zero h = inr ((λ e. omega arith), h)
bit_case (x ∷ xs) (suc n) b (suc i) h = elim (bit_case xs n b i h) [ inl k ↦ inl (ap suc k.0, k.1) | inr k ↦ inr ((λ e. k.0 (omega arith)), k.1) ]

pub either_is : (a b : List Bool) (i : ℕ) → has (either a b) i ≡ true → (has a i ≡ true) ⊎ (has b i ≡ true)
either_is a b zero h = or_cases (has a 0) (has b 0) h
either_is a b (suc zero) h = or_cases (has a 1) (has b 1) h
either_is a b (suc (suc zero)) h = or_cases (has a 2) (has b 2) h
either_is a b (suc (suc (suc zero))) h = or_cases (has a 3) (has b 3) h
either_is a b (suc (suc (suc (suc zero)))) h = or_cases (has a 4) (has b 4) h
either_is a b (suc (suc (suc (suc (suc zero))))) h = or_cases (has a 5) (has b 5) h
either_is a b (suc (suc (suc (suc (suc (suc i)))))) h = absurd cc

pub either_of : (a b : List Bool) (i : ℕ) → i < REGISTERS → (has a i || has b i) ≡ true → has (either a b) i ≡ true
either_of a b zero few h = h
either_of a b (suc zero) few h = h
either_of a b (suc (suc zero)) few h = h
either_of a b (suc (suc (suc zero))) few h = h
either_of a b (suc (suc (suc (suc zero)))) few h = h
either_of a b (suc (suc (suc (suc (suc zero))))) few h = h
either_of a b (suc (suc (suc (suc (suc (suc i)))))) few h = absurd (omega arith)

-- a location that may become a holder
pub with_bit_is : (m : List Bool) (l : ℕ) (b : Bool) (j : ℕ) → has (with_bit m l b) j ≡ true → (has m j ≡ true) ⊎ ((l ≡ j) × (b ≡ true))
with_bit_is m l b j h = elim (bit_case m l (has m l || b) j h) [
  | inl k ↦ elim (or_cases (has m l) b k.1) [ inl o ↦ inl (subst (λ i. has m i ≡ true) k.0 o) | inr o ↦ inr (k.0, o) ]
  | inr k ↦ inl k.1
]

pub with_bit_keeps : (m : List Bool) (l : ℕ) (b : Bool) (j : ℕ) → has m j ≡ true → has (with_bit m l b) j ≡ true
with_bit_keeps m l b j h = elim (set_case m l (has m l || b) j false) [
  | inl k ↦ k.1 ∙ or_left (has m l) b (subst (λ i. has m i ≡ true) (sym k.0) h)
  | inr same ↦ same ∙ h
]

pub with_bit_has : (m : List Bool) (l : ℕ) (b : Bool) → l < length m → b ≡ true → has (with_bit m l b) l ≡ true
with_bit_has m l b there h = get_or-set_same m l (has m l || b) false there ∙ or_right (has m l) b h

-- how many bits are not set
abbrev pub zeros : List Bool → ℕ
zeros [] = 0
zeros (true ∷ xs) = zeros xs
zeros (false ∷ xs) = suc (zeros xs)

abbrev Kept : List Bool → List Bool → Type 0
Kept xs ys = (l : ℕ) → has xs l ≡ true → has ys l ≡ true

no_more : (xs ys : List Bool) → length ys ≡ length xs → Kept xs ys → zeros ys ≤ zeros xs
no_more [] [] e k = omega arith
no_more [] (y ∷ ys) e k = absurd (omega arith)
no_more (x ∷ xs) [] e k = absurd (omega arith)
no_more (true ∷ xs) (true ∷ ys) e k = no_more xs ys (omega arith) (λ l h. k (suc l) h)
no_more (true ∷ xs) (false ∷ ys) e k = absurd (let no : false ≡ true = k zero refl in cc)
no_more (false ∷ xs) (true ∷ ys) e k = let le = no_more xs ys (omega arith) (λ l h. k (suc l) h) in omega arith
no_more (false ∷ xs) (false ∷ ys) e k = let le = no_more xs ys (omega arith) (λ l h. k (suc l) h) in omega arith

-- with a bit more fewer are not set
pub fewer : (xs ys : List Bool) → length ys ≡ length xs → ((l : ℕ) → has xs l ≡ true → has ys l ≡ true) → (ys ≡ xs → ⊥) → zeros ys < zeros xs
fewer [] [] e k ne = absurd (ne refl)
fewer [] (y ∷ ys) e k ne = absurd (omega arith)
fewer (x ∷ xs) [] e k ne = absurd (omega arith)
fewer (true ∷ xs) (true ∷ ys) e k ne = fewer xs ys (omega arith) (λ l h. k (suc l) h) (λ q. ne (ap (λ zs. true ∷ zs) q))
fewer (true ∷ xs) (false ∷ ys) e k ne = absurd (let no : false ≡ true = k zero refl in cc)
fewer (false ∷ xs) (true ∷ ys) e k ne = let le = no_more xs ys (omega arith) (λ l h. k (suc l) h) in omega arith
fewer (false ∷ xs) (false ∷ ys) e k ne = let le = fewer xs ys (omega arith) (λ l h. k (suc l) h) (λ q. ne (ap (λ zs. false ∷ zs) q)) in omega arith
