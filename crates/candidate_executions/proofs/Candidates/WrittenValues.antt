-- What an access writes.
use Rattle.candidate_executions.proofs.Vocabulary.{◌≡◌, ℕ, List, [], ◌∷◌, ◌⊎◌, Option, Some, None, IsSome, option_map, slice_get, map, refl, sym, ◌∙◌, inl, inr, slice_get-map, Pending, Access, Event}
use Rattle.candidate_executions.proofs.{Orders.AcyclicIsOrdered.In, Candidates.EdgesAreDecidable.same_event}

abbrev pub stored_as : Option ℕ → ℕ
stored_as None = 0
stored_as (Some v) = v

abbrev pub store_of : Option Access → Pending
store_of None = record { location = 0; value = 0 }
store_of (Some y) = record { location = y.location; value = stored_as y.written }

pub in_or_not : (e : Event) (es : List Event) → In e es ⊎ (In e es → ⊥)
in_or_not e [] = inr (λ z. z)
in_or_not e (x ∷ es) = elim (same_event e x) [
  | inl q ↦ inl (inl q)
  | inr n ↦ elim (in_or_not e es) [ inl i ↦ inl (inr i) | inr m ↦ inr (λ z. elim z [ inl y ↦ n y | inr y ↦ m y ]) ]
]

pub mapped_get : {A B : Type 0} (f : A → B) (o : Option A) (b : B) → option_map f o ≡ Some b → (a : A) × (o ≡ Some a) × (f a ≡ b)
mapped_get f None b h = absurd cc
mapped_get f (Some a) b h = (a, refl, cc)

pub get_mapped : {A B : Type 0} (f : A → B) (xs : List A) (q : ℕ) (b : B) → slice_get (map f xs) q ≡ Some b → (a : A) × (slice_get xs q ≡ Some a) × (f a ≡ b)
get_mapped f xs q b h = mapped_get f (slice_get xs q) b (sym (slice_get-map f xs q) ∙ h)

pub some_written : (o : Option ℕ) → IsSome o → o ≡ Some (stored_as o)
some_written None h = absurd cc
some_written (Some v) h = refl
