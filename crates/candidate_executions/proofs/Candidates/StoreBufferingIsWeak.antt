-- Store buffering: both reads give 0 with no gap fenced, and neither sequentially nor with both gaps fenced.
use Rattle.candidate_executions.proofs.Vocabulary.{◌≡◌, ◌≢◌, ℕ, zero, suc, ◌-◌, ◌<◌, ◌≤◌, ◌⊎◌, List, [], ◌∷◌, Some, None, slice_index, refl, sym, ap, ◌∙◌, subst, inl, inr, arith, lit<, same_Some, Stop, action, SequentialMachine, StoreBufferMachine, no_gaps}
use Rattle.candidate_executions.proofs.Vocabulary.{Access, Event, Initial, At, trace_of, access, Writes, EndsWith, IsCandidate, HasOutcome, Precedes, KeepsOrder, ReadsFrom, WriteOrder, FromReads, IsCycle, Edge, IsConsistent}
use Rattle.tso_machine.specs.Examples.{store_buffering}
use Rattle.candidate_executions.specs.declared.event.Kind.TheVariants as union
use Rattle.candidate_executions.specs.StoreBuffering.{both_zero, initial_source, both_gaps, zeros_read, StoreBufferingCandidates}
use Rattle.candidate_executions.proofs.{Orders.ForwardIsAcyclic.Pair, Orders.ForwardIsAcyclic.Less, Orders.ForwardIsAcyclic.acyclic_by, Orders.Lists.not_some}

-- store, load, store, load
abbrev around : List Event
around = At 0 0 ∷ At 0 1 ∷ At 1 0 ∷ At 1 1 ∷ []

whole_cycle : IsCycle (Edge store_buffering SequentialMachine both_zero union.Sequential) around
whole_cycle = (
  (_, _, refl, refl, inl (refl, lit< tt)),
  (
    (_, _, refl, refl, inr (inr (inr (refl, refl, refl, (λ e. cc), lit< tt)))),
    (
      (_, _, refl, refl, inl (refl, lit< tt)),
      (_, _, refl, refl, inr (inr (inr (refl, refl, refl, (λ e. cc), lit< tt)))),
    ),
  ),
)

fenced_cycle : IsCycle (Edge store_buffering (StoreBufferMachine both_gaps) both_zero union.Global) around
fenced_cycle = (
  (_, _, refl, refl, inl ((refl, lit< tt), inr (inr (λ e. omega (arith, e))))),
  (
    (_, _, refl, refl, inr (inr (inr (refl, refl, refl, (λ e. cc), lit< tt)))),
    (
      (_, _, refl, refl, inl ((refl, lit< tt), inr (inr (λ e. omega (arith, e))))),
      (_, _, refl, refl, inr (inr (inr (refl, refl, refl, (λ e. cc), lit< tt)))),
    ),
  ),
)

not_both : IsConsistent store_buffering (StoreBufferMachine both_gaps) both_zero → ⊥
not_both h = h.1 around fenced_cycle

-- with no fence it is consistent: the initial writes come first, then the reads, then the stores
abbrev key : Event → Pair
key (Initial l) = (0, 0)
key (At t zero) = (2, 0)
key (At t (suc i)) = (1, 0)

abbrev write_of : ℕ → Access
write_of t = record { section = 0; location = t; read = None; written = Some 1 }

abbrev read_of : ℕ → Access
read_of t = record { section = 0; location = 1 - t; read = Some 0; written = None }

writes : (t : ℕ) (x : Access) → access store_buffering (StoreBufferMachine no_gaps) both_zero (At t zero) ≡ Some x → (t < 2) × (x ≡ write_of t)
writes zero x a = (lit< tt, sym (same_Some (write_of 0) x a))
writes (suc zero) x a = (lit< tt, sym (same_Some (write_of 1) x a))
writes (suc (suc t)) x a = absurd cc

reads : (t j : ℕ) (x : Access) → access store_buffering (StoreBufferMachine no_gaps) both_zero (At t (suc j)) ≡ Some x → (t < 2) × (j ≡ 0) × (x ≡ read_of t)
reads zero zero x a = (lit< tt, refl, sym (same_Some (read_of 0) x a))
reads (suc zero) zero x a = (lit< tt, refl, sym (same_Some (read_of 1) x a))
reads t j x a = absurd cc

initials : (l : ℕ) (x : Access) → access store_buffering (StoreBufferMachine no_gaps) both_zero (Initial l) ≡ Some x → x.read ≡ None
initials l x a = sym (ap (λ (z : Access). z.read) (same_Some _ x a))

-- the two unions at once
abbrev Both : Event → Access → Event → Access → Type 0
Both d x e y = (Precedes d e × ((x.location ≡ y.location) ⊎ KeepsOrder x y)) ⊎ (ReadsFrom both_zero d e y ⊎ (WriteOrder both_zero d x e y ⊎ FromReads both_zero d x e y))

source_is_initial : (e : Event) (t i : ℕ) (u j : ℕ) → e ≡ At u j → initial_source e ≡ At t i → ⊥
source_is_initial e t i zero j q h = let z : initial_source (At zero j) ≡ At t i = subst (λ w. initial_source w ≡ At t i) q h in cc
source_is_initial e t i (suc u) j q h = let z : initial_source (At (suc u) j) ≡ At t i = subst (λ w. initial_source w ≡ At t i) q h in cc

into_initial : (d : Event) (l : ℕ) (x y : Access) → access store_buffering (StoreBufferMachine no_gaps) both_zero (Initial l) ≡ Some y → Both d x (Initial l) y → ⊥
into_initial (Initial k) l x y b (inl p) = p.0
into_initial (At t i) l x y b (inl p) = p.0
into_initial d l x y b (inr (inl r)) = not_some y.read (initials l y b) r.0
into_initial d l x y b (inr (inr (inl o))) = let z = o.3 in omega arith
into_initial d l x y b (inr (inr (inr f))) = let z = f.4 in omega arith

goes_up : (d e : Event) (x y : Access) → access store_buffering (StoreBufferMachine no_gaps) both_zero d ≡ Some x → access store_buffering (StoreBufferMachine no_gaps) both_zero e ≡ Some y → Both d x e y → Less (key d) (key e)
goes_up d (Initial l) x y a b r = absurd (into_initial d l x y b r)
goes_up (Initial l) (At u zero) x y a b r = inl (lit< tt)
goes_up (Initial l) (At u (suc j)) x y a b r = inl (lit< tt)
goes_up (At t (suc i)) (At u zero) x y a b r = inl (lit< tt)
goes_up (At t (suc i)) (At u (suc j)) x y a b (inl p) = absurd (let f = (reads u j y b).1 in let n = p.0.1 in omega arith)
goes_up (At t (suc i)) (At u (suc j)) x y a b (inr (inl r)) = absurd (source_is_initial _ t (suc i) u (suc j) refl r.1)
goes_up (At t (suc i)) (At u (suc j)) x y a b (inr (inr m)) = absurd (not_some y.written (ap (λ (z : Access). z.written) (reads u j y b).2) (elim m [ inl o ↦ o.2 | inr f ↦ f.2 ]))
goes_up (At t zero) (At u zero) x y a b (inl p) = absurd (let n = p.0.1 in omega arith)
goes_up (At t zero) (At u (suc j)) x y a b (inl p) = absurd (
    let f : x ≡ write_of t = (writes t x a).1 in
    let g : y ≡ read_of u = (reads u j y b).2 in
    let h = (writes t x a).0 in let q = p.0.0 in
    elim p.1 [
      | inl l ↦ (let z : t ≡ 1 - u = sym (ap (λ (z : Access). z.location) f) ∙ (l ∙ ap (λ (z : Access). z.location) g) in omega arith)
      | inr (inl r) ↦ not_some x.read (ap (λ (z : Access). z.read) f) r
      | inr (inr (inl w)) ↦ not_some y.written (ap (λ (z : Access). z.written) g) w
      | inr (inr (inr s)) ↦ s (ap (λ (z : Access). z.section) f ∙ sym (ap (λ (z : Access). z.section) g))
    ])
goes_up (At t zero) (At u j) x y a b (inr (inl r)) = absurd (source_is_initial _ t zero u j refl r.1)
goes_up (At t zero) (At u (suc j)) x y a b (inr (inr m)) = absurd (not_some y.written (ap (λ (z : Access). z.written) (reads u j y b).2) (elim m [ inl o ↦ o.2 | inr f ↦ f.2 ]))
goes_up (At t zero) (At u zero) x y a b (inr (inr m)) = absurd (
    let f : x ≡ write_of t = (writes t x a).1 in
    let g : y ≡ write_of u = (writes u y b).1 in
    let z : t ≡ u = sym (ap (λ (z : Access). z.location) f) ∙ (elim m [ inl o ↦ o.0 | inr r ↦ r.0 ] ∙ ap (λ (z : Access). z.location) g) in
    elim m [ inl o ↦ (let n = o.3 in omega arith) | inr r ↦ not_some x.read (ap (λ (z : Access). z.read) f) r.1 ])

consistent_unfenced : IsConsistent store_buffering (StoreBufferMachine no_gaps) both_zero
consistent_unfenced = (
  acyclic_by _ key (λ d e r. goes_up d e r.0 r.1 r.2 r.3 (elim r.4 [ inl a ↦ inl (a.0, inl a.1) | inr a ↦ inr a ])),
  acyclic_by _ key (λ d e r. goes_up d e r.0 r.1 r.2 r.3 (elim r.4 [ inl a ↦ inl (a.0, inr a.1) | inr a ↦ elim a [ inl b ↦ inr (inl b.0) | inr b ↦ inr (inr b) ] ])),
)

-- a write is the initial one of its location, or its thread's store
which_write : (e : Event) (l v : ℕ) → Writes (access store_buffering (StoreBufferMachine no_gaps) both_zero) e l v → (e ≡ Initial l) ⊎ ((e ≡ At l 0) × (l < 2))
which_write (Initial k) l v a = inl (ap Initial (ap (λ (z : Access). z.location) (same_Some _ a.0 a.1) ∙ a.2))
which_write (At t zero) l v a =
    let f = writes t a.0 a.1 in
    let same : t ≡ l = sym (ap (λ (z : Access). z.location) f.1) ∙ a.2 in
    inr (ap (λ z. At z 0) same, subst (λ z. z < 2) same f.0)
which_write (At t (suc j)) l v a = absurd (not_some a.0.written (ap (λ (z : Access). z.written) (reads t j a.0 a.1).2) (rw a.3 refl))

-- a read gives 0, of the other thread's location
which_read : (e : Event) (x : Access) (v : ℕ) → access store_buffering (StoreBufferMachine no_gaps) both_zero e ≡ Some x → x.read ≡ Some v →
    (v ≡ 0) × (both_zero.source e ≡ Initial x.location) × (e ≢ Initial x.location) × (slice_index store_buffering.memory x.location ≡ 0)
which_read (Initial l) x v a r = absurd (not_some x.read (initials l x a) (rw r refl))
which_read (At t zero) x v a r = absurd (not_some x.read (ap (λ (z : Access). z.read) (writes t x a).1) (rw r refl))
which_read (At t (suc j)) x v a r =
    let f = reads t j x a in
    let z : Some 0 ≡ Some v = sym (ap (λ (z : Access). z.read) f.2) ∙ r in
    let l : 1 - t ≡ x.location = sym (ap (λ (z : Access). z.location) f.2) in
    (sym (same_Some 0 v z), subst (λ z. initial_source (At t (suc j)) ≡ Initial z) l (of_thread t f.0).0, (λ e. cc), subst (λ z. slice_index store_buffering.memory z ≡ 0) l (of_thread t f.0).1)
  where
    of_thread : (t : ℕ) → t < 2 → (initial_source (At t (suc j)) ≡ Initial (1 - t)) × (slice_index store_buffering.memory (1 - t) ≡ 0)
    of_thread zero h = (refl, refl)
    of_thread (suc zero) h = (refl, refl)
    of_thread (suc (suc t)) h = absurd (omega arith)

is_candidate : IsCandidate store_buffering (StoreBufferMachine no_gaps) both_zero
is_candidate = record {
  whole = whole;
  values = λ e x v a r. let f = which_read e x v a r in inl (f.0 ∙ sym f.3);
  sources = λ e x v a r. let f = which_read e x v a r in ((λ q. f.2 (sym q ∙ f.1)), subst (λ z. Writes (access store_buffering (StoreBufferMachine no_gaps) both_zero) z x.location v) (sym f.1) (_, refl, refl, ap Some (f.3 ∙ sym f.0)));
  ranks = λ d e l v w a b q. elim (which_write d l v a) [
    | inl f ↦ elim (which_write e l w b) [
      | inl g ↦ f ∙ sym g
      | inr g ↦ absurd (let z : both_zero.rank (Initial l) ≡ both_zero.rank (At l 0) = ap both_zero.rank (sym f) ∙ (q ∙ ap both_zero.rank g.0) in omega arith)
    ]
    | inr f ↦ elim (which_write e l w b) [
      | inl g ↦ absurd (let z : both_zero.rank (At l 0) ≡ both_zero.rank (Initial l) = ap both_zero.rank (sym f.0) ∙ (q ∙ ap both_zero.rank g) in omega arith)
      | inr g ↦ f.0 ∙ sym g.0
    ]
  ];
  initial = λ e l v a. omega arith;
}
  where
    whole : (t : ℕ) → (action store_buffering.threads t (trace_of store_buffering (StoreBufferMachine no_gaps) both_zero t).last ≡ Stop) ×
        ((trace_of store_buffering (StoreBufferMachine no_gaps) both_zero t).unused ≡ [])
    whole zero = (refl, refl)
    whole (suc zero) = (refl, refl)
    whole (suc (suc t)) = (refl, refl)

-- each location ends with its thread's store
outcome : HasOutcome store_buffering (StoreBufferMachine no_gaps) both_zero zeros_read
outcome = record { registers = refl; long = refl; memory = ends }
  where
    last : (l : ℕ) (d : Event) (w : ℕ) → Writes (access store_buffering (StoreBufferMachine no_gaps) both_zero) d l w → both_zero.rank d ≤ both_zero.rank (At l 0)
    last l d w a = elim (which_write d l w a) [ inl f ↦ (let z = ap both_zero.rank f in omega arith) | inr f ↦ (let z = ap both_zero.rank f.0 in omega arith) ]

    ends : (l : ℕ) → l < 2 → EndsWith store_buffering (StoreBufferMachine no_gaps) both_zero l (slice_index zeros_read.memory l)
    ends zero h = (At 0 0, (_, refl, refl, refl), last 0)
    ends (suc zero) h = (At 1 0, (_, refl, refl, refl), last 1)
    ends (suc (suc l)) h = absurd (omega arith)

pub store_buffering_is_told : StoreBufferingCandidates
store_buffering_is_told = record {
  is_candidate = is_candidate;
  outcome = outcome;
  unfenced = consistent_unfenced;
  sequential = λ h. h around whole_cycle;
  fenced = not_both;
}
