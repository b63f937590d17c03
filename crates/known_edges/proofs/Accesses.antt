-- All accesses of a sketch, listed by thread and index.
use Rattle.known_edges.proofs.Vocabulary.{◌≡◌, ◌↔◌, ◌⊎◌, ℕ, ◌+◌, ◌<◌, ◌≤◌, List, [], ◌∷◌, ◌++◌, get_or, length, Contains, refl, sym, ap, subst, inl, inr, arith, AllPairs, option_map_or, cases_lt, Contains-get_or, Contains-append_left, Contains-push}
use Rattle.known_edges.proofs.Vocabulary.{Contains-push_cases, all_pairs_push, Event, Initial, At, ComesBefore, ThreadTrace, IsInitialWrite, accesses_at, IsEarly, IsOfThreads, AreAccesses, slice_get_past}
use Rattle.known_edges.proofs.Vocabulary.{slice_get_read, IsGrown, later}

-- an access of one of the first n threads
abbrev pub IsBelow : List ThreadTrace → ℕ → Event → Type 0
IsBelow thread_traces n (Initial l) = ⊥
IsBelow thread_traces n (At u i) = (u < n) × (i < length (accesses_at thread_traces u))

early_before : (t i : ℕ) (e : Event) → IsEarly t i e → ComesBefore e (At t i)
early_before t i (Initial l) h = absurd h
early_before t i (At u j) h = inr h

early_more : (t i : ℕ) (e : Event) → IsEarly t (i + 1) e → (At t i ≡ e) ⊎ IsEarly t i e
early_more t i (Initial l) h = absurd h
early_more t i (At u j) h = elim (cases_lt j i) [
  | inl l ↦ inr (h.0, l)
  | inr g ↦ (let same : i ≡ j = (let n = h.1 in omega arith) in inl (λ k. At ((sym h.0) k) (same k)))
]

early_less : (t i : ℕ) (e : Event) → IsEarly t i e → IsEarly t (i + 1) e
early_less t i (Initial l) h = h
early_less t i (At u j) h = (h.0, let n = h.1 in omega arith)

-- one access more of thread t
pub grown_more : (old new : List Event) (t i : ℕ) → ((e : Event) → Contains old e → ComesBefore e (At t 0)) → IsGrown (IsEarly t i) old new →
    IsGrown (IsEarly t (i + 1)) old (new ++ At t i ∷ [])
grown_more old new t i first g = record {
  exact = λ e. (
    λ has. elim (Contains-push_cases new (At t i) e has) [
      | inl a ↦ elim ((g.exact e).0 a) [ inl b ↦ inl b | inr p ↦ inr (early_less t i e p) ]
      | inr q ↦ inr (subst (IsEarly t (i + 1)) q (refl, omega arith))
    ],
    λ h. elim h [
      | inl b ↦ Contains-append_left new (At t i ∷ []) e ((g.exact e).1 (inl b))
      | inr p ↦ elim (early_more t i e p) [
        | inl q ↦ subst (Contains (new ++ At t i ∷ [])) q (Contains-push new (At t i))
        | inr r ↦ Contains-append_left new (At t i ∷ []) e ((g.exact e).1 (inr r))
      ]
    ],
  );
  ordered = λ pairs. all_pairs_push ComesBefore new (At t i) (g.ordered pairs)
      (λ k d l. elim ((g.exact (get_or new k d)).0 (Contains-get_or new k d l)) [
        | inl b ↦ later t i (get_or new k d) (first (get_or new k d) b)
        | inr p ↦ early_before t i (get_or new k d) p
      ]);
}

-- what came before stands before the next thread
pub before_thread : (thread_traces : List ThreadTrace) (old new : List Event) (t : ℕ) → ((e : Event) → Contains old e → IsInitialWrite e) → IsGrown (IsBelow thread_traces t) old new → (e : Event) → Contains new e → ComesBefore e (At t 0)
before_thread thread_traces old new t initial g e has = elim ((g.exact e).0 has) [ inl b ↦ is_initial e (initial e b) | inr p ↦ is_below e p ]
  where
    is_initial : (e : Event) → IsInitialWrite e → ComesBefore e (At t 0)
    is_initial (Initial l) h = tt
    is_initial (At u i) h = absurd h

    is_below : (e : Event) → IsBelow thread_traces t e → ComesBefore e (At t 0)
    is_below (Initial l) h = absurd h
    is_below (At u i) h = inl h.0

below_more : (thread_traces : List ThreadTrace) (t n : ℕ) → length (accesses_at thread_traces t) ≡ n → (e : Event) → IsBelow thread_traces (t + 1) e → IsBelow thread_traces t e ⊎ IsEarly t n e
below_more thread_traces t n q (Initial l) h = absurd h
below_more thread_traces t n q (At u i) h = elim (cases_lt u t) [
  | inl l ↦ inl (l, h.1)
  | inr g ↦ (let same : u ≡ t = (let m = h.0 in omega arith) in
      let within : i < length (accesses_at thread_traces t) = subst (λ z. i < length (accesses_at thread_traces z)) same h.1 in
      inr (same, omega arith))
]

below_less : (thread_traces : List ThreadTrace) (t n : ℕ) → length (accesses_at thread_traces t) ≡ n → (e : Event) → IsBelow thread_traces t e ⊎ IsEarly t n e → IsBelow thread_traces (t + 1) e
below_less thread_traces t n q (Initial l) (inl h) = h
below_less thread_traces t n q (Initial l) (inr h) = h
below_less thread_traces t n q (At u i) (inl h) = (let m = h.0 in omega arith, h.1)
below_less thread_traces t n q (At u i) (inr h) = (let m = h.0 in omega arith, subst (λ z. i < length (accesses_at thread_traces z)) (sym h.0) (let l = h.1 in omega arith))

-- one thread more
pub grown_threads : (thread_traces : List ThreadTrace) (old new next : List Event) (t n : ℕ) → length (accesses_at thread_traces t) ≡ n → IsGrown (IsBelow thread_traces t) old new →
    ((e : Event) → Contains next e ↔ (Contains new e ⊎ IsEarly t n e)) → (AllPairs ComesBefore new → AllPairs ComesBefore next) → IsGrown (IsBelow thread_traces (t + 1)) old next
grown_threads thread_traces old new next t n q g exact ordered = record {
  exact = λ e. (
    λ h. elim ((exact e).0 h) [
      | inl a ↦ elim ((g.exact e).0 a) [ inl b ↦ inl b | inr p ↦ inr (below_less thread_traces t n q e (inl p)) ]
      | inr p ↦ inr (below_less thread_traces t n q e (inr p))
    ],
    λ h. (exact e).1 (elim h [
      | inl b ↦ inl ((g.exact e).1 (inl b))
      | inr p ↦ elim (below_more thread_traces t n q e p) [ inl r ↦ inl ((g.exact e).1 (inr r)) | inr r ↦ inr r ]
    ]),
  );
  ordered = λ pairs. ordered (g.ordered pairs);
}

pub no_trace : (thread_traces : List ThreadTrace) (u i : ℕ) → length thread_traces ≤ u → i < length (accesses_at thread_traces u) → ⊥
no_trace thread_traces u i h l =
    let gone : accesses_at thread_traces u ≡ [] = ap (λ o. option_map_or (λ (c : ThreadTrace). c.accesses) o []) (slice_get_past thread_traces u h) in
    let none = ap length gone in
    omega arith

all_below : (thread_traces : List ThreadTrace) (n : ℕ) → length thread_traces ≤ n → (e : Event) → (IsBelow thread_traces n e → IsOfThreads thread_traces e) × (IsOfThreads thread_traces e → IsBelow thread_traces n e)
all_below thread_traces n h (Initial l) = (λ p. p, λ p. p)
all_below thread_traces n h (At u i) = (λ p. p.1, λ p. (elim (cases_lt u n) [ inl l ↦ l | inr g ↦ absurd (no_trace thread_traces u i (omega arith) p) ], p))

-- an access of one of the first threads is one of the threads'
pub below_of : (thread_traces : List ThreadTrace) (n : ℕ) (e : Event) → IsBelow thread_traces n e → IsOfThreads thread_traces e
below_of thread_traces n (Initial l) h = h
below_of thread_traces n (At u i) h = h.1

-- the accesses of a thread_trace that is read
pub accesses_read : (thread_traces : List ThreadTrace) (t : ℕ) (thread_trace : ThreadTrace) → t < length thread_traces → thread_trace ≡ get_or thread_traces t thread_trace → accesses_at thread_traces t ≡ thread_trace.accesses
accesses_read thread_traces t thread_trace h is =
    ap (λ o. option_map_or (λ (c : ThreadTrace). c.accesses) o []) (slice_get_read thread_traces (length thread_traces) t thread_trace refl h is)

-- all accesses
pub grown_all : (thread_traces : List ThreadTrace) (old new : List Event) (n : ℕ) → length thread_traces ≤ n → IsGrown (IsBelow thread_traces n) old new → IsGrown (IsOfThreads thread_traces) old new
grown_all thread_traces old new n h g = record {
  exact = λ e. (
    λ k. elim ((g.exact e).0 k) [ inl b ↦ inl b | inr p ↦ inr ((all_below thread_traces n h e).0 p) ],
    λ k. (g.exact e).1 (elim k [ inl b ↦ inl b | inr p ↦ inr ((all_below thread_traces n h e).1 p) ]),
  );
  ordered = g.ordered;
}

-- which have come to an empty list
pub grown_alone : (thread_traces : List ThreadTrace) (old new : List Event) → old ≡ [] → IsGrown (IsOfThreads thread_traces) old new → AreAccesses thread_traces new
grown_alone thread_traces old new empty g = record {
  exact = λ e. (
    λ k. elim ((g.exact e).0 k) [ inl b ↦ absurd (let l = (subst (λ (es : List Event). Contains es e) empty b).1 in omega arith) | inr p ↦ p ],
    λ k. (g.exact e).1 (inr k),
  );
  ordered = g.ordered (λ i j d p q. absurd (let none = ap length empty in omega arith));
}

pub early_none : (t : ℕ) (e : Event) → IsEarly t 0 e → ⊥
early_none t (Initial l) h = h
early_none t (At u i) h = let n = h.1 in omega arith

pub below_none : (thread_traces : List ThreadTrace) (e : Event) → IsBelow thread_traces 0 e → ⊥
below_none thread_traces (Initial l) h = h
below_none thread_traces (At u i) h = let n = h.0 in omega arith
