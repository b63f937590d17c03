-- Writes of accesses, and initial ones.
use Rattle.rowless_sketches.proofs.Vocabulary.{◌≡◌, ◌⊎◌, ℕ, refl, sym, ap, ◌∙◌, inl, inr, slice_index, same_Some, slice_get_within, Access, Event, Initial, At, Writes, ProgramSketch, access_in, IsLawful, HasLater, IsOwn}

-- one event writes one value to one location
pub same_location : (s : ProgramSketch) (e : Event) (l m v w : ℕ) → Writes (access_in s) e l v → Writes (access_in s) e m w → l ≡ m
same_location s e l m v w a b = sym a.2 ∙ ap (λ (z : Access). z.location) (same_Some a.0 b.0 (sym a.1 ∙ b.1)) ∙ b.2

pub same_value : (s : ProgramSketch) (e : Event) (l m v w : ℕ) → Writes (access_in s) e l v → Writes (access_in s) e m w → v ≡ w
same_value s e l m v w a b = same_Some v w (sym a.3 ∙ ap (λ (z : Access). z.written) (same_Some a.0 b.0 (sym a.1 ∙ b.1)) ∙ b.3)

-- a write is an access, or the initial one
pub own_or_initial : (s : ProgramSketch) (e : Event) (l v : ℕ) → Writes (access_in s) e l v → IsOwn s e ⊎ ((e ≡ Initial l) × (v ≡ slice_index s.program.memory l))
own_or_initial s (At t i) l v w = inl (slice_get_within _ i w.0 w.1)
own_or_initial s (Initial m) l v w =
    let at : m ≡ l = same_location s (Initial m) m l (slice_index s.program.memory m) v (_, refl, refl, refl) w in
    inr (ap Initial at, same_value s (Initial m) l m v (slice_index s.program.memory m) w (_, refl, refl, refl) ∙ ap (slice_index s.program.memory) at)

-- no pair puts a write after an initial one
pub first_free : (s : ProgramSketch) (l : ℕ) → IsLawful s → HasLater s (Initial l) → ⊥
first_free s l lawful (d, h) =
    let (differ, (m, v, w, first, second, not_first, not_second)) = lawful.is_sketch.pairs (Initial l) d h in
    not_first (ap Initial (ap (λ (z : Access). z.location) (same_Some _ first.0 first.1) ∙ first.2))
