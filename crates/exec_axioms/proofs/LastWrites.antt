-- Where no known edges make a cycle, each location has a write that may be its last.
use Rattle.exec_axioms.proofs.Vocabulary.{◌≡◌, ◌↔◌, ◌⊎◌, ℕ, ◌<◌, List, [], ◌∷◌, Option, Some, None, length, Contains, refl, sym, ap, ◌∙◌, subst, inl, inr, arith, slice_index, cases_eq, same_Some, Access, Event, Initial, At, Kind, Writes, IsOfMode, IsBefore}
use Rattle.exec_axioms.proofs.Vocabulary.{KnownRelates, KnownEdgeOfMode, same_event, ProgramSketch, mode_in, access_in, IsLawful, HasNoCycle, IsSuccessor, WritesTo, none_here, first_or_later, first_is_here, later_is_here, SketchMayEndWith, events, events_has}
use Rattle.tso_machine.specs.Machine.{Machine, SequentialMachine, StoreBufferMachine}
use Rattle.candidate_executions.specs.declared.event.Kind.TheVariants as union
use Rattle.candidate_executions.specs.Orders.{followed_union}
use Rattle.exec_axioms.proofs.RoundTrips.{round_trip}

pub of_followed : (m : Machine) → IsOfMode m (followed_union m)
of_followed SequentialMachine = tt
of_followed (StoreBufferMachine gaps) = tt

pub known_before : (s : ProgramSketch) (kind : Kind) (d e : Event) (x y : Access) → IsBefore s.chosen d e y → KnownRelates s.chosen kind d x e y
known_before s union.Sequential d e x y h = inr (inr (inl h))
known_before s kind d e x y h = inr (inr (inl h))

-- a chosen pair is a known edge
pub pair_edge : (s : ProgramSketch) (d e : Event) → IsLawful s → Contains s.chosen.pairs (d, e) → KnownEdgeOfMode s.program (mode_in s) s.chosen (followed_union (mode_in s)) d e
pair_edge s d e lawful h =
    let (differ, (l, v, w, first, second, not_first, not_second)) = lawful.is_sketch.pairs d e h in
    (of_followed (mode_in s), (first.0, second.0, first.1, second.1, known_before s (followed_union (mode_in s)) d e first.0 second.0 (inl h)))

-- whether a pair puts a write after e
later : (pairs : List (Event × Event)) (e : Event) → ((d : Event) × Contains pairs (e, d)) ⊎ ((d : Event) → Contains pairs (e, d) → ⊥)
later [] e = inr (λ d h. none_here _ h)
later (p ∷ ps) e = elim (same_event p.0 e) [
  | inl q ↦ inl (p.1, subst (λ z. Contains (p ∷ ps) (z, p.1)) q (first_is_here p ps))
  | inr n ↦ elim (later ps e) [
    | inl h ↦ inl (h.0, later_is_here p ps (e, h.0) h.1)
    | inr none ↦ inr (λ d has. elim (first_or_later p ps (e, d) has) [ inl q ↦ n (ap (λ (a : Event × Event). a.0) q) | inr h ↦ none d h ])
  ]
]

-- one of the events has none after it, or each has one
some_end : (pairs : List (Event × Event)) (es : List Event) →
    ((e : Event) × Contains es e × ((d : Event) → Contains pairs (e, d) → ⊥)) ⊎ ((e : Event) → Contains es e → (d : Event) × Contains pairs (e, d))
some_end pairs [] = inr (λ e h. absurd (none_here e h))
some_end pairs (x ∷ es) = elim (later pairs x) [
  | inr none ↦ inl (x, first_is_here x es, none)
  | inl here ↦ elim (some_end pairs es) [
    | inl (e, h, none) ↦ inl (e, later_is_here x es e h, none)
    | inr each ↦ inr (λ e h. elim (first_or_later x es e h) [ inl q ↦ subst (λ z. (d : Event) × Contains pairs (z, d)) q here | inr l ↦ each e l ])
  ]
]

module _ (s : ProgramSketch) (l : ℕ) where
  -- an access that writes the location
  abbrev IsOwnWrite : Event → Type 0
  IsOwnWrite (Initial m) = ⊥
  IsOwnWrite (At t i) = WritesTo s (At t i) l

  own_by : (e : Event) (o : Option Access) → access_in s e ≡ o → WritesTo s e l ⊎ (WritesTo s e l → ⊥)
  own_by e None at = inr (λ w. (let q = sym at ∙ w.1.1 in cc))
  own_by e (Some x) at = elim (cases_eq x.location l) [
    | inr n ↦ inr (λ w. n (ap (λ (z : Access). z.location) (same_Some x w.1.0 (sym at ∙ w.1.1)) ∙ w.1.2))
    | inl same ↦ written same x.written refl
  ]
    where
      written : x.location ≡ l → (o : Option ℕ) → x.written ≡ o → WritesTo s e l ⊎ (WritesTo s e l → ⊥)
      written same None none = inr (λ w. (let q = sym none ∙ ap (λ (z : Access). z.written) (same_Some x w.1.0 (sym at ∙ w.1.1)) ∙ w.1.3 in cc))
      written same (Some v) is = inl (v, (x, at, same, is))

  own : (e : Event) → IsOwnWrite e ⊎ (IsOwnWrite e → ⊥)
  own (Initial m) = inr (λ h. h)
  own (At t i) = own_by (At t i) (access_in s (At t i)) refl

  -- those of the events that are such writes
  sifted : (es : List Event) → (fs : List Event) × ((e : Event) → Contains fs e ↔ (Contains es e × IsOwnWrite e))
  sifted [] = ([], λ e. (λ h. absurd (none_here e h), λ h. absurd (none_here e h.0)))
  sifted (x ∷ es) = let (fs, each) = sifted es in elim (own x) [
    | inl w ↦ (
      x ∷ fs,
      λ e. (
        λ h. elim (first_or_later x fs e h) [
          | inl q ↦ (subst (Contains (x ∷ es)) q (first_is_here x es), subst IsOwnWrite q w)
          | inr r ↦ (let a = (each e).0 r in (later_is_here x es e a.0, a.1))
        ],
        λ h. elim (first_or_later x es e h.0) [ inl q ↦ subst (Contains (x ∷ fs)) q (first_is_here x fs) | inr r ↦ later_is_here x fs e ((each e).1 (r, h.1)) ],
      ),
    )
    | inr n ↦ (
      fs,
      λ e. (
        λ h. (let a = (each e).0 h in (later_is_here x es e a.0, a.1)),
        λ h. elim (first_or_later x es e h.0) [ inl q ↦ absurd (n (subst IsOwnWrite (sym q) h.1)) | inr r ↦ (each e).1 (r, h.1) ],
      ),
    )
  ]

  writes_of : (e : Event) → IsOwnWrite e → WritesTo s e l
  writes_of (Initial m) h = absurd h
  writes_of (At t i) h = h

  not_initial : (e : Event) → IsOwnWrite e → e ≡ Initial l → ⊥
  not_initial (Initial m) h q = h
  not_initial (At t i) h q = cc

module _ (s : ProgramSketch) (l : ℕ) (lawful : IsLawful s) (fs : List Event) (exact : (e : Event) → Contains fs e ↔ (Contains (events s lawful) e × IsOwnWrite s l e)) where
  there : (e : Event) (v : ℕ) → Writes (access_in s) e l v → (e ≡ Initial l → ⊥) → Contains fs e
  there (Initial m) v w n = absurd (n (ap Initial (ap (λ (z : Access). z.location) (same_Some _ w.0 w.1) ∙ w.2)))
  there (At t i) v w n = (exact (At t i)).1 (events_has s lawful t i w.0 w.1, (v, w))

  -- where each such write has one after it, there is a cycle
  goes : (e : Event) → Contains fs e → ((d : Event) × Contains s.chosen.pairs (e, d)) → (d : Event) × IsSuccessor (KnownEdgeOfMode s.program (mode_in s) s.chosen (followed_union (mode_in s))) fs e d
  goes e has (d, h) =
      let (differ, (m, v, w, first, second, not_first, not_second)) = lawful.is_sketch.pairs e d h in
      let (u, own_write) = writes_of s l e ((exact e).0 has).1 in
      let at : m ≡ l = sym first.2 ∙ ap (λ (z : Access). z.location) (same_Some first.0 own_write.0 (sym first.1 ∙ own_write.1)) ∙ own_write.2 in
      (d, (there d w (subst (λ z. Writes (access_in s) d z w) at second) (λ q. not_second (q ∙ ap Initial (sym at))), pair_edge s e d lawful h))

  -- if there is no such write, the initial write may be the last
  initial_last : ((e : Event) → Contains fs e → ⊥) → SketchMayEndWith s l (slice_index s.program.memory l)
  initial_last none = (
    Initial l,
    (
      (_, refl, refl, refl),
      record {
        no_later = λ d h.
            let (differ, (m, v, w, first, second, not_first, not_second)) = lawful.is_sketch.pairs (Initial l) d h in
            not_first (ap Initial (ap (λ (z : Access). z.location) (same_Some _ first.0 first.1) ∙ first.2));
        only_initial = λ q d v w. elim (same_event d (Initial l)) [ inl same ↦ same | inr n ↦ absurd (none d (there d v w n)) ];
      },
    ),
  )

  found : HasNoCycle s → (v : ℕ) × SketchMayEndWith s l v
  found acyclic = elim (some_end s.chosen.pairs fs) [
    | inl (e, here, none) ↦
        (let is = ((exact e).0 here).1 in
        let (v, w) = writes_of s l e is in
        (v, (e, (w, record { no_later = none; only_initial = λ q d u z. absurd (not_initial s l e is q) }))))
    | inr each ↦ by fs refl each
  ]
    where
      by : (es : List Event) → fs ≡ es → ((e : Event) → Contains fs e → (d : Event) × Contains s.chosen.pairs (e, d)) → (v : ℕ) × SketchMayEndWith s l v
      by [] q each = (slice_index s.program.memory l, initial_last (λ e h. none_here e (subst (λ xs. Contains xs e) q h)))
      by (x ∷ es) q each = absurd
          (let (round, cycle) = round_trip (KnownEdgeOfMode s.program (mode_in s) s.chosen (followed_union (mode_in s))) fs (λ e h. goes e h (each e h)) (subst (λ xs. 0 < length xs) (sym q) (omega arith)) in
          acyclic (followed_union (mode_in s)) round cycle)

-- each location has a write that may be its last
pub some_last : (s : ProgramSketch) (l : ℕ) → IsLawful s → HasNoCycle s → (v : ℕ) × SketchMayEndWith s l v
some_last s l lawful acyclic = (let (fs, exact) = sifted s l (events s lawful) in found s l lawful fs exact acyclic)
