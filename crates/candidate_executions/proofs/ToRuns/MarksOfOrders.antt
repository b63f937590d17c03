-- A run that shows what the events of an order show has their candidate.
use Rattle.candidate_executions.proofs.Vocabulary.{◌≡◌, ℕ, suc, zero, ◌<◌, List, [], ◌∷◌, ◌⊎◌, Option, Some, None, IsSome, Contains, refl, sym, ap, ◌∙◌, subst, inl, inr, arith, AllPairs, cases_order, same_Some, Contains-append_left, Contains-append_right}
use Rattle.candidate_executions.proofs.Vocabulary.{Contains-append_cases, Listing, Label, Machine, Access, Event, Initial, At, Kind, Candidate, access, Writes, IsCandidate, Relates, WriteOrder, Edge, Mark, Takes, Arrives, marks_of, ReadsValue, IsStored}
use Rattle.candidate_executions.proofs.Vocabulary.{ArriveInOrder, IsCandidateOf}
use Rattle.candidate_executions.specs.declared.event.Kind.TheVariants as union
use Rattle.candidate_executions.proofs.{Orders.AcyclicIsOrdered.In, Orders.AcyclicIsOrdered.Distinct, Orders.AcyclicIsOrdered.Ordered, ToRuns.Linear.IsLinear, Orders.Lists.some_value}
use Rattle.candidate_executions.proofs.FromRuns.PairsOfMarks.{PairsOf, pairs_all, none_in, first_in, pairs_append}
use Rattle.candidate_executions.proofs.FromRuns.MarksAlong.{taken, arrived, shown_by, shown_along}

taken_is : (r : Option ℕ) (e d : Event) (m : Mark) → Contains (taken r e d) m → (v : ℕ) × (r ≡ Some v) × (m ≡ Takes e v d)
taken_is None e d m h = absurd (none_in m h)
taken_is (Some v) e d m (zero, n, q) = (v, refl, sym q)
taken_is (Some v) e d m (suc k, n, q) = absurd (omega arith)

arrived_is : (w : Option ℕ) (e : Event) (m : Mark) → Contains (arrived w e) m → (v : ℕ) × (w ≡ Some v) × (m ≡ Arrives e)
arrived_is None e m h = absurd (none_in m h)
arrived_is (Some v) e m (zero, n, q) = (v, refl, sym q)
arrived_is (Some v) e m (suc k, n, q) = absurd (omega arith)

module _ (at : Event → Option Access) (c : Candidate) where
  abbrev Takes_by : Event → Access → Mark → Type 0
  Takes_by e x m = (v : ℕ) × (x.read ≡ Some v) × (m ≡ Takes e v (c.source e))

  abbrev Arrives_by : Event → Access → Mark → Type 0
  Arrives_by e x m = (v : ℕ) × (x.written ≡ Some v) × (m ≡ Arrives e)

  -- what an event shows
  mark_by : (e : Event) (o : Option Access) (m : Mark) → Contains (shown_by c e o) m → (x : Access) × (o ≡ Some x) × (Takes_by e x m ⊎ Arrives_by e x m)
  mark_by e None m h = absurd (none_in m h)
  mark_by e (Some x) m h = elim (Contains-append_cases (taken x.read e (c.source e)) (arrived x.written e) m h) [
    | inl i ↦ (x, refl, inl (taken_is x.read e (c.source e) m i))
    | inr i ↦ (x, refl, inr (arrived_is x.written e m i))
  ]

  in_shown : (es : List Event) (m : Mark) → Contains (shown_along at c es) m → (e : Event) × In e es × ((x : Access) × (at e ≡ Some x) × (Takes_by e x m ⊎ Arrives_by e x m))
  in_shown [] m h = absurd (none_in m h)
  in_shown (e ∷ es) m h = elim (Contains-append_cases (shown_by c e (at e)) (shown_along at c es) m h) [
    | inl i ↦ (e, inl refl, mark_by e (at e) m i)
    | inr i ↦ (let (d, k, a) = in_shown es m i in (d, inr k, a))
  ]

  shown_in : (es : List Event) (e : Event) (m : Mark) → In e es → Contains (shown_by c e (at e)) m → Contains (shown_along at c es) m
  shown_in [] e m i h = absurd i
  shown_in (x ∷ es) e m (inl q) h = Contains-append_left (shown_by c x (at x)) (shown_along at c es) m (subst (λ z. Contains (shown_by c z (at z)) m) q h)
  shown_in (x ∷ es) e m (inr i) h = Contains-append_right (shown_by c x (at x)) (shown_along at c es) m (shown_in es e m i h)

  takes_shown : (e : Event) (x : Access) (v : ℕ) → at e ≡ Some x → x.read ≡ Some v → Contains (shown_by c e (at e)) (Takes e v (c.source e))
  takes_shown e x v a r = subst (λ o. Contains (shown_by c e o) (Takes e v (c.source e))) (sym a)
      (Contains-append_left (taken x.read e (c.source e)) (arrived x.written e) (Takes e v (c.source e))
      (subst (λ o. Contains (taken o e (c.source e)) (Takes e v (c.source e))) (sym r) (first_in (Takes e v (c.source e)) [])))

  arrives_shown : (e : Event) (x : Access) (v : ℕ) → at e ≡ Some x → x.written ≡ Some v → Contains (shown_by c e (at e)) (Arrives e)
  arrives_shown e x v a w = subst (λ o. Contains (shown_by c e o) (Arrives e)) (sym a)
      (Contains-append_right (taken x.read e (c.source e)) (arrived x.written e) (Arrives e)
      (subst (λ o. Contains (arrived o e) (Arrives e)) (sym w) (first_in (Arrives e) [])))

  takes_of : (es : List Event) (e d : Event) (v : ℕ) → Contains (shown_along at c es) (Takes e v d) → ReadsValue at e v × (c.source e ≡ d)
  takes_of es e d v h = let (f, i, (x, a, m)) = in_shown es (Takes e v d) h in elim m [
    | inl t ↦ (let same : e ≡ f = let q = t.2 in cc in
        let value : v ≡ t.0 = let q = t.2 in cc in
        let source : d ≡ c.source f = let q = t.2 in cc in
        ((x, ap at same ∙ a, t.1 ∙ ap Some (sym value)), ap c.source same ∙ sym source))
    | inr t ↦ absurd (let q = t.2 in cc)
  ]

  arrives_of : (es : List Event) (e : Event) → Contains (shown_along at c es) (Arrives e) → In e es × ((x : Access) × (at e ≡ Some x) × ((v : ℕ) × (x.written ≡ Some v)))
  arrives_of es e h = let (f, i, (x, a, m)) = in_shown es (Arrives e) h in elim m [
    | inl t ↦ absurd (let q = t.2 in cc)
    | inr t ↦ (let same : e ≡ f = let q = t.2 in cc in (subst (λ z. In z es) (sym same) i, (x, ap at same ∙ a, (t.0, t.1))))
  ]

-- each union has the write order
write_edge : (p : Listing) (mode : Machine) (c : Candidate) (kind : Kind) (d e : Event) (l v w : ℕ) → Writes (access p mode c) d l v → Writes (access p mode c) e l w → c.rank d < c.rank e → Edge p mode c kind d e
write_edge p mode c kind d e l v w a b less = (a.0, b.0, a.1, b.1, go kind)
  where
    written : WriteOrder c d a.0 e b.0
    written = (a.2 ∙ sym b.2, subst IsSome (sym a.3) refl, subst IsSome (sym b.3) refl, less)

    go : (kind : Kind) → Relates c kind d a.0 e b.0
    go union.Sequential = inr (inr (inl written))
    go kind = inr (inr (inl written))

module _ (p : Listing) (mode : Machine) (c : Candidate) (is : IsCandidate p mode c) (kind : Kind) where
  abbrev at : Event → Option Access
  at = access p mode c

  abbrev R : Event → Event → Type 0
  R = Edge p mode c kind

  -- of two events the first in the order has the lower rank, where both write a location
  first_lower : (e : Event) (es : List Event) → (In e es → ⊥) → ((d : Event) → In d es → R d e → ⊥) → (x y : Mark) → Contains (shown_by c e (at e)) x → Contains (shown_along at c es) y → ArriveInOrder at c x y
  first_lower e es new none (Arrives f) (Arrives d) h i = λ l v w a b. (
      let (x, o, m) = mark_by at c e (at e) (Arrives f) h in
      let same : f ≡ e = elim m [ inl t ↦ absurd (let q = t.2 in cc) | inr t ↦ (let q = t.2 in cc) ] in
      let there = (arrives_of at c es d i).0 in
      elim (cases_order (c.rank f) (c.rank d)) [
        | inl q ↦ absurd (new (subst (λ z. In z es) (sym (is.ranks f d l v w a b q) ∙ same) there))
        | inr (inl less) ↦ less
        | inr (inr more) ↦ absurd (none d there (subst (λ z. R d z) same (write_edge p mode c kind d f l w v b a more)))
      ])
  first_lower e es new none x y h i = tt

  in_itself : (e : Event) (o : Option Access) → PairsOf (ArriveInOrder at c) (shown_by c e o)
  in_itself e None = tt
  in_itself e (Some x) = pairs_append (ArriveInOrder at c) (taken x.read e (c.source e)) (arrived x.written e) (takes x.read) (arrives x.written)
      (λ x y h i. after x y h i)
    where
      takes : (r : Option ℕ) → PairsOf (ArriveInOrder at c) (taken r e (c.source e))
      takes None = tt
      takes (Some v) = ((λ y h. absurd (none_in y h)), tt)

      arrives : (w : Option ℕ) → PairsOf (ArriveInOrder at c) (arrived w e)
      arrives None = tt
      arrives (Some v) = ((λ y h. absurd (none_in y h)), tt)

      after : (m n : Mark) → Contains (taken x.read e (c.source e)) m → Contains (arrived x.written e) n → ArriveInOrder at c m n
      after (Takes f v g) n h i = tt
      after (Arrives f) n h i = absurd (let t = taken_is x.read e (c.source e) (Arrives f) h in let q = t.2 in cc)

  in_order : (es : List Event) → Distinct es → Ordered R es → PairsOf (ArriveInOrder at c) (shown_along at c es)
  in_order [] d o = tt
  in_order (e ∷ es) d o = pairs_append (ArriveInOrder at c) (shown_by c e (at e)) (shown_along at c es) (in_itself e (at e)) (in_order es d.1 o.1) (first_lower e es d.0 o.0)

  pub candidate_of_order : (labels : List Label) (order : List Event) → IsLinear at R order → marks_of p mode labels ≡ shown_along at c order → IsCandidateOf p mode labels c
  candidate_of_order labels order linear same = record {
    takes = λ e d v. (
      λ h. takes_of at c order e d v (subst (λ ms. Contains ms (Takes e v d)) same h),
      λ (a, q). subst (λ ms. Contains ms (Takes e v d)) (sym same) (subst (λ z. Contains (shown_along at c order) (Takes e v z)) q (reads e v a)),
    );
    arrives = λ e. (
      λ h. (let (i, a) = arrives_of at c order e (subst (λ ms. Contains ms (Arrives e)) same h) in stored e i a),
      λ a. subst (λ ms. Contains ms (Arrives e)) (sym same) (writes e a),
    );
    order = subst (AllPairs (ArriveInOrder at c)) (sym same) (pairs_all (ArriveInOrder at c) (shown_along at c order) (in_order order linear.distinct linear.ordered));
  }
    where
      reads : (e : Event) (v : ℕ) → ReadsValue at e v → Contains (shown_along at c order) (Takes e v (c.source e))
      reads (Initial l) v (x, a, r) = absurd (let q : None ≡ x.read = ap (λ (z : Access). z.read) (same_Some _ x a) in let k : None ≡ Some v = q ∙ r in cc)
      reads (At t i) v (x, a, r) = shown_in at c order (At t i) (Takes (At t i) v (c.source (At t i))) (linear.holds t i x a) (takes_shown at c (At t i) x v a r)

      stored : (e : Event) → In e order → ((x : Access) × (at e ≡ Some x) × ((v : ℕ) × (x.written ≡ Some v))) → IsStored at e
      stored (Initial l) i a = linear.no_initial l i
      stored (At t i) k (x, a, (v, w)) = (x, a, subst IsSome (sym w) refl)

      writes : (e : Event) → IsStored at e → Contains (shown_along at c order) (Arrives e)
      writes (Initial l) h = absurd h
      writes (At t i) (x, a, w) = let (v, q) = some_value x.written w in
          shown_in at c order (At t i) (Arrives (At t i)) (linear.holds t i x a) (arrives_shown at c (At t i) x v a q)
