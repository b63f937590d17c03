-- Relations that hold of each mark and each later one.
use Rattle.candidate_executions.proofs.Vocabulary.{suc, zero, List, [], ◌∷◌, ◌++◌, Contains, get_or, refl, inl, inr, arith, AllPairs, Mark, Contains-get_or, Contains-append_cases}

-- the relation holds of each mark and each later one
abbrev pub PairsOf : (Mark → Mark → Type 0) → List Mark → Type 0
PairsOf R [] = Unit {0}
PairsOf R (x ∷ xs) = ((y : Mark) → Contains xs y → R x y) × PairsOf R xs

pub pairs_all : (R : Mark → Mark → Type 0) (xs : List Mark) → PairsOf R xs → AllPairs R xs
pairs_all R (x ∷ xs) h zero (suc j) d a b = h.0 (get_or xs j d) (Contains-get_or xs j d (omega arith))
pairs_all R (x ∷ xs) h (suc i) (suc j) d a b = pairs_all R xs h.1 i j d (omega arith) (omega arith)
pairs_all R xs h g k d a b = absurd (omega arith)

pub none_in : (m : Mark) → Contains [] m → ⊥
none_in m h = let n = h.1 in omega arith

pub first_in : (x : Mark) (xs : List Mark) → Contains (x ∷ xs) x
first_in x xs = (0, omega arith, refl)

pub later_in : (x : Mark) (xs : List Mark) (m : Mark) → Contains xs m → Contains (x ∷ xs) m
later_in x xs m (k, n, q) = (suc k, omega arith, q)

pub pairs_append : (R : Mark → Mark → Type 0) (xs ys : List Mark) → PairsOf R xs → PairsOf R ys → ((x y : Mark) → Contains xs x → Contains ys y → R x y) → PairsOf R (xs ++ ys)
pairs_append R [] ys a b f = b
pairs_append R (x ∷ xs) ys a b f = (
  λ y h. elim (Contains-append_cases xs ys y h) [ inl i ↦ a.0 y i | inr i ↦ f x y (first_in x xs) i ],
  pairs_append R xs ys a.1 b (λ z y i j. f z y (later_in x xs z i) j),
)
