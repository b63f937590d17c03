-- Whether an edge leads from one event to another can be decided.
use Rattle.candidate_executions.proofs.Vocabulary.{◌≡◌, ℕ, ◌<◌, ◌⊎◌, Option, Some, None, IsSome, refl, sym, ap, ap₂, ◌∙◌, subst, inl, inr, arith, cases_lt, cases_eq, same_Some, Listing, Machine, Access, Event, Initial, At, Kind, Candidate, access, Precedes}
use Rattle.candidate_executions.proofs.Vocabulary.{SameThread, KeepsOrder, ReadsFrom, Relates, Edge, WriteOrder, FromReads}
use Rattle.candidate_executions.specs.declared.event.Kind.TheVariants as union
use Rattle.candidate_executions.proofs.Orders.AcyclicIsOrdered.{Decidable}

abbrev pub Dec₁ : Type 0 → Type 0
Dec₁ A = A ⊎ (A → ⊥)

both : {A B : Type 0} → Dec₁ A → Dec₁ B → Dec₁ (A × B)
both (inl a) (inl b) = inl (a, b)
both (inl a) (inr b) = inr (λ z. b z.1)
both (inr a) b = inr (λ z. a z.0)

either : {A B : Type 0} → Dec₁ A → Dec₁ B → Dec₁ (A ⊎ B)
either (inl a) b = inl (inl a)
either (inr a) (inl b) = inl (inr b)
either (inr a) (inr b) = inr (λ z. elim z [ inl y ↦ a y | inr y ↦ b y ])

negate : {A : Type 0} → Dec₁ A → Dec₁ (A → ⊥)
negate (inl a) = inr (λ f. f a)
negate (inr a) = inl a

less : (m n : ℕ) → Dec₁ (m < n)
less m n = elim (cases_lt m n) [ inl a ↦ inl a | inr a ↦ inr (λ z. omega arith) ]

some : {A : Type 0} (o : Option A) → Dec₁ (IsSome o)
some None = inr (λ z. cc)
some (Some x) = inl refl

pub same_event : (d e : Event) → Dec₁ (d ≡ e)
same_event (Initial l) (Initial k) = elim (cases_eq l k) [ inl q ↦ inl (ap Initial q) | inr n ↦ inr (λ z. n cc) ]
same_event (At t i) (At u j) = elim (both (cases_eq t u) (cases_eq i j)) [ inl q ↦ inl (ap₂ At q.0 q.1) | inr n ↦ inr (λ z. n ((let a : t ≡ u = cc in a), (let b : i ≡ j = cc in b))) ]
same_event d e = inr (λ z. cc)

precedes : (d e : Event) → Dec₁ (Precedes d e)
precedes (At t i) (At u j) = both (cases_eq t u) (less i j)
precedes d e = inr (λ z. z)

pub same_thread : (d e : Event) → Dec₁ (SameThread d e)
same_thread (At t i) (At u j) = cases_eq t u
same_thread d e = inr (λ z. z)

module _ (p : Listing) (mode : Machine) (c : Candidate) where
  kept : (x y : Access) → Dec₁ (KeepsOrder x y)
  kept x y = either (some x.read) (either (some y.written) (negate (cases_eq x.section y.section)))

  reads : (d e : Event) (y : Access) → Dec₁ (ReadsFrom c d e y)
  reads d e y = both (some y.read) (same_event (c.source e) d)

  write_order : (d : Event) (x : Access) (e : Event) (y : Access) → Dec₁ (WriteOrder c d x e y)
  write_order d x e y = elim (both (cases_eq x.location y.location) (both (some x.written) (both (some y.written) (less (c.rank d) (c.rank e))))) [
    | inl a ↦ inl (a.0, a.1.0, a.1.1.0, a.1.1.1)
    | inr n ↦ inr (λ z. n (z.0, (z.1, (z.2, z.3))))
  ]

  from_reads : (d : Event) (x : Access) (e : Event) (y : Access) → Dec₁ (FromReads c d x e y)
  from_reads d x e y = elim (both (cases_eq x.location y.location) (both (some x.read) (both (some y.written)
      (both (negate (same_event d e)) (less (c.rank (c.source d)) (c.rank e)))))) [
        | inl a ↦ inl (a.0, a.1.0, a.1.1.0, a.1.1.1.0, a.1.1.1.1)
        | inr n ↦ inr (λ z. n (z.0, (z.1, (z.2, (z.3, z.4)))))
      ]

  relates : (kind : Kind) (d : Event) (x : Access) (e : Event) (y : Access) → Dec₁ (Relates c kind d x e y)
  relates union.Sequential d x e y = either (precedes d e) (either (reads d e y) (either (write_order d x e y) (from_reads d x e y)))
  relates union.Location d x e y = either (both (precedes d e) (cases_eq x.location y.location)) (either (reads d e y) (either (write_order d x e y) (from_reads d x e y)))
  relates union.Global d x e y = either (both (precedes d e) (kept x y)) (either (both (reads d e y) (negate (same_thread d e))) (either (write_order d x e y) (from_reads d x e y)))

  pub edge : (kind : Kind) → Decidable (Edge p mode c kind)
  edge kind d e = go (access p mode c d) refl (access p mode c e) refl
    where
      go : (o : Option Access) → access p mode c d ≡ o → (q : Option Access) → access p mode c e ≡ q → Dec₁ (Edge p mode c kind d e)
      go None a q b = inr (λ z. let k : None ≡ Some z.0 = sym a ∙ z.2 in cc)
      go (Some x) a None b = inr (λ z. let k : None ≡ Some z.1 = sym b ∙ z.3 in cc)
      go (Some x) a (Some y) b = elim (relates kind d x e y) [
        | inl r ↦ inl (x, y, a, b, r)
        | inr n ↦ inr (λ z. let f : z.0 ≡ x = same_Some z.0 x (sym z.2 ∙ a) in let g : z.1 ≡ y = same_Some z.1 y (sym z.3 ∙ b) in
            n (subst (λ (w : Access). Relates c kind d w e y) f (subst (λ (w : Access). Relates c kind d z.0 e w) g z.4)))
      ]
