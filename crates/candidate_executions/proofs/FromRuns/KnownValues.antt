-- Each value that a location may hold is one of the location's values, and each of those is known.
use Rattle.candidate_executions.proofs.Vocabulary.{ℕ, refl, inl, inr, Listing, IsKnown, IsValueOf, HeldValuesAreValues}
use Rattle.tso_machine.specs.HeldValues.{Cell, Location, Register, Begins, Memory, First, Loaded, Stored, Absent, Flows, Keeps, Copies, Loads, Stores, Gives, Takes, MayHold, Here, From}

begins : (p : Listing) (c : Cell) (v : ℕ) → Begins p c v → IsKnown p v
begins p c v (Memory l) = inr (inr (inr (l, refl)))
begins p c v (First t i) = inr (inr (inl (t, i, refl)))
begins p c v (Loaded t k r w at) = inr (inl (inl (r, (t, k, at))))
begins p c v (Stored t k l w at) = inr (inl (inr (inl (l, (t, k, at)))))
begins p c v (Absent t k i past) = inl refl

-- what may be held anywhere is known
pub known : (p : Listing) (c : Cell) (v : ℕ) → MayHold p c v → IsKnown p v
known p c v (Here d w b) = begins p d w b
known p c v (From d e w f h) = known p d w h

-- of a location
abbrev OfCell : Listing → Cell → ℕ → Type 0
OfCell p (Location l) v = IsValueOf p l v
OfCell p (Register t k i) v = Unit {0}

value_begins : (p : Listing) (c : Cell) (v : ℕ) → Begins p c v → OfCell p c v
value_begins p c v (Memory l) = inl refl
value_begins p c v (First t i) = tt
value_begins p c v (Loaded t k r w at) = tt
value_begins p c v (Stored t k l w at) = inr (inl (t, k, at))
value_begins p c v (Absent t k i past) = tt

value_flows : (p : Listing) (d c : Cell) (v : ℕ) → Flows p d c → IsKnown p v → OfCell p c v
value_flows p d c v (Keeps t k j i x at none leads) is = tt
value_flows p d c v (Copies t k r from at) is = tt
value_flows p d c v (Loads t k r l at) is = tt
value_flows p d c v (Stores t k l r at) is = inr (inr ((r, inl (t, k, at)), is))
value_flows p d c v (Gives t k l r at) is = inr (inr ((r, inr (t, k, at)), is))
value_flows p d c v (Takes t k l r at) is = tt

held : (p : Listing) (c : Cell) (v : ℕ) → MayHold p c v → OfCell p c v
held p c v (Here d w b) = value_begins p d w b
held p c v (From d e w f h) = value_flows p d e w f (known p d w h)

pub held_is_value : HeldValuesAreValues
held_is_value p l v is = held p (Location l) v is

-- a location's values are among what a register may hold
pub known_value : (p : Listing) (l v : ℕ) → IsValueOf p l v → IsKnown p v
known_value p l v is = elim is [ inl q ↦ inr (inr (inr (l, q))) | inr (inl o) ↦ inr (inl (inr (inl (l, o)))) | inr (inr k) ↦ k.1 ]
