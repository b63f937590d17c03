-- Elements looked up by index: what holds of those so far, and of the next one; and what an option has, or has not.
use Rattle.program_sketches.proofs.Vocabulary.{◌≡◌, ℕ, zero, suc, ◌+◌, ◌<◌, List, [], ◌∷◌, Option, Some, None, Result, Ok, Err, get_or, length, refl, sym, ap, ◌∙◌, subst, inl, inr, arith, MatchOption, cases_lt}
use Rattle.std.specs.Result.{OnErr}

-- inside a list the default makes no difference
pub same_default : {A : Type 0} (xs : List A) (i : ℕ) (d e : A) → i < length xs → get_or xs i d ≡ get_or xs i e
same_default [] i d e h = absurd (omega arith)
same_default (x ∷ xs) zero d e h = refl
same_default (x ∷ xs) (suc i) d e h = same_default xs i d e (omega arith)

-- what holds of the elements so far and of the next one holds of all of these
pub each_more : {A : Type 0} (P : A → Type 0) (xs : List A) (i : ℕ) (d : A) → i < length xs → ((k : ℕ) (x : A) → k < i → get_or xs k x ≡ x → P x) → P (get_or xs i d) →
    (k : ℕ) (x : A) → k < i + 1 → get_or xs k x ≡ x → P x
each_more P xs i d h below here k x l q = elim (cases_lt k i) [
  | inl a ↦ below k x a q
  | inr g ↦ (let same : k ≡ i = omega arith in subst P (same_default xs i d x h ∙ ap (λ n. get_or xs n x) (sym same) ∙ q) here)
]

-- what holds below an index and at it holds below the next one
pub each_index : (P : ℕ → Type 0) (i : ℕ) → ((k : ℕ) → k < i → P k) → P i → (k : ℕ) → k < i + 1 → P k
each_index P i below here k l = elim (cases_lt k i) [ inl a ↦ below k a | inr g ↦ (let same : i ≡ k = omega arith in subst P same here) ]

-- what follows where there is no value
pub none_by : {A : Type 0} (o : Option A) (M N : Type 0) (S : A → Type 0) → (M → N) → MatchOption o M S → MatchOption o N S
none_by None M N S f h = f h
none_by (Some x) M N S f h = h

pub empty_list : {A : Type 0} (xs : List A) → length xs ≡ 0 → xs ≡ []
empty_list [] h = refl
empty_list (x ∷ xs) h = absurd (omega arith)

-- what holds anyway holds of each error
pub on_err_by : {T E : Type 0} (r : Result T E) (P : Type 0) → P → OnErr r P
on_err_by (Ok x) P p = tt
on_err_by (Err e) P p = p
