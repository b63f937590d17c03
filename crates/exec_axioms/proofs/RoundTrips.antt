-- Where an edge leads from each event to another, there is a cycle.
use Rattle.exec_axioms.proofs.Vocabulary.{◌≡◌, ◌⊎◌, ℕ, zero, suc, ◌<◌, ◌≤◌, List, [], ◌∷◌, ◌++◌, Some, slice_get, get_or, drop, length, Contains, refl, subst, inl, inr, arith, remove, slice_get-get_or, Event, Initial, IsCycle, same_event, EachGoesOn, IsWalk}
use Rattle.exec_axioms.proofs.Vocabulary.{walk_begins}
use Rattle.std.proofs.lemmas.List.Edits.{length-remove}
use Rattle.exec_axioms.proofs.Walks.{comes_back, is_open, goes_on}

-- the place of an event, if it is in the list
place_of : (es : List Event) (e : Event) → ((i : ℕ) × (slice_get es i ≡ Some e)) ⊎ (Contains es e → ⊥)
place_of [] e = inr (λ h. let n = h.1 in omega arith)
place_of (x ∷ es) e = elim (same_event x e) [
  | inl q ↦ inl (0, subst (λ z. slice_get (x ∷ es) 0 ≡ Some z) q refl)
  | inr n ↦ elim (place_of es e) [ inl h ↦ inl (suc h.0, h.1) | inr none ↦ inr (λ h. not_here x es e n none h) ]
]
  where
    not_here : (x : Event) (es : List Event) (e : Event) → (x ≡ e → ⊥) → (Contains es e → ⊥) → Contains (x ∷ es) e → ⊥
    not_here x es e n none (zero, h, q) = n q
    not_here x es e n none (suc k, h, q) = none (k, omega arith, q)

-- a walk comes back, since fewer and fewer events are new
walked_round : (R : Event → Event → Type 0) (nodes : List Event) → EachGoesOn R nodes → (n : ℕ) (path : List Event) (now : Event) (others : List Event) → length others ≤ n →
    IsWalk R nodes path now others → (es : List Event) × IsCycle R es
walked_round R nodes goes zero path now others short walk =
    let (next, edge) = goes now walk.is_node in
    elim (place_of (path ++ now ∷ []) next) [
      | inl (i, at) ↦ (drop i (path ++ now ∷ []), (comes_back R nodes path others now next walk edge i at).0)
      | inr fresh ↦ absurd (let (k, h, q) = is_open R nodes path others now next walk edge fresh in omega arith)
    ]
walked_round R nodes goes (suc n) path now others short walk =
    let (next, edge) = goes now walk.is_node in
    elim (place_of (path ++ now ∷ []) next) [
      | inl (i, at) ↦ (drop i (path ++ now ∷ []), (comes_back R nodes path others now next walk edge i at).0)
      | inr fresh ↦ (let (k, h, q) = is_open R nodes path others now next walk edge fresh in
          let at : slice_get others k ≡ Some next = subst (λ z. slice_get others k ≡ Some z) q (slice_get-get_or others k next h) in
          let less = length-remove others k h in
          walked_round R nodes goes n (path ++ now ∷ []) next (remove others k) (omega arith) (goes_on R nodes path others now next walk edge fresh k at))
    ]

pub round_trip : (R : Event → Event → Type 0) (nodes : List Event) → EachGoesOn R nodes → 0 < length nodes → (es : List Event) × IsCycle R es
round_trip R nodes goes some =
    let first = get_or nodes 0 (Initial 0) in
    walked_round R nodes goes (length (remove nodes 0)) [] first (remove nodes 0) (omega arith) (walk_begins R nodes first (slice_get-get_or nodes 0 (Initial 0) some))
