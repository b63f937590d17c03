-- Elements of lists.
use Rattle.std.proofs.Common.{◌≡◌, ℕ, List, ◌∷◌, Some, Contains, All, slice_get, subst, inl, inr}
use Rattle.tree_laws.proofs.Vocabulary.{slice_get_within, get_or_from_slice_get, first_or_later}
pub use Rattle.candidate_executions.proofs.Orders.Lists.{none_here, first_or_later, first_is_here, later_is_here, mapped}

-- what is found at a place is an element
pub found_is_here : {A : Type 0} (xs : List A) (n : ℕ) (x : A) → slice_get xs n ≡ Some x → Contains xs x
found_is_here xs n x e = (n, slice_get_within xs n x e, get_or_from_slice_get xs n x x e)

-- and has what each element has
pub found_has : {A : Type 0} (P : A → Type 0) (xs : List A) (n : ℕ) (x : A) → slice_get xs n ≡ Some x → All P xs → P x
found_has P xs n x e each = subst P (get_or_from_slice_get xs n x x e) (each n x (slice_get_within xs n x e))

-- what the first and each later element has each element has
pub each_more : {A : Type 0} (P : A → Type 0) (x : A) (xs : List A) → P x → ((y : A) → Contains xs y → P y) → (y : A) → Contains (x ∷ xs) y → P y
each_more P x xs first later y here = elim (first_or_later x xs y here) [ inl e ↦ subst P e first | inr there ↦ later y there ]
