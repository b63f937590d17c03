-- No edge leads into an initial write, so no cycle passes through one.
use Rattle.candidate_executions.proofs.Vocabulary.{◌⊎◌, ◌≡◌, ℕ, zero, suc, ◌<◌, List, [], ◌∷◌, Option, Some, None, IsSome, Contains, refl, sym, ap, ◌∙◌, subst, inl, inr, arith, same_Some, Listing, Machine, Access, Event, Initial, At, Kind, Candidate, access}
use Rattle.candidate_executions.proofs.Vocabulary.{access_by, IsCandidate, Precedes, WriteOrder, FromReads, Edge, Leads, IsCycle, Sketch, given_to, IsSketch, IsBefore, KnownEdge, NoEdgeLeadsIntoInitial, CyclesAreOfAccesses, NoKnownEdgeLeadsIntoInitial}
use Rattle.candidate_executions.proofs.Vocabulary.{KnownCyclesAreOfAccesses}
use Rattle.candidate_executions.specs.declared.event.Kind.TheVariants as union
use Rattle.candidate_executions.proofs.{Candidates.WrittenValues.stored_as, Candidates.WrittenValues.some_written, Orders.Lists.not_some}

no_order : (d : Event) (l : ℕ) → Precedes d (Initial l) → ⊥
no_order (Initial k) l h = h
no_order (At t i) l h = h

-- a union of which no part leads there
neither : {P R W F : Type 0} → P ⊎ (R ⊎ (W ⊎ F)) → (P → ⊥) → (R → ⊥) → (W → ⊥) → (F → ⊥) → ⊥
neither h p r w f = elim h [ inl a ↦ p a | inr (inl a) ↦ r a | inr (inr (inl a)) ↦ w a | inr (inr (inr a)) ↦ f a ]

module _ (p : Listing) (mode : Machine) (c : Candidate) (is : IsCandidate p mode c) where
  least : (e : Event) (x y : Access) (l : ℕ) → access p mode c e ≡ Some x → x.location ≡ y.location → IsSome x.written →
      access p mode c (Initial l) ≡ Some y → c.rank e < c.rank (Initial l) → ⊥
  least e x y l a q w b n =
      let z : y.location ≡ l = sym (ap (λ (z : Access). z.location) (same_Some _ y b)) in
      let le = is.initial e l (stored_as x.written) (x, a, q ∙ z, some_written x.written w) in omega arith

  no_write_order : (d : Event) (l : ℕ) (x y : Access) → access p mode c d ≡ Some x → access p mode c (Initial l) ≡ Some y → WriteOrder c d x (Initial l) y → ⊥
  no_write_order d l x y a b r = least d x y l a r.0 r.1 b r.3

  no_from_reads : (d : Event) (l : ℕ) (x y : Access) → access p mode c d ≡ Some x → access p mode c (Initial l) ≡ Some y → FromReads c d x (Initial l) y → ⊥
  no_from_reads d l x y a b r = go x.read refl
    where
      go : (o : Option ℕ) → x.read ≡ o → ⊥
      go None q = not_some x.read q r.1
      go (Some v) q = let s = (is.sources d x v a q).1 in least (c.source d) s.0 y l s.1 (s.2 ∙ r.0) (rw s.3 refl) b r.4

  no_read : (l : ℕ) (y : Access) → access p mode c (Initial l) ≡ Some y → IsSome y.read → ⊥
  no_read l y b h = not_some y.read (sym (ap (λ (z : Access). z.read) (same_Some _ y b))) h

  pub no_edge : (kind : Kind) (d : Event) (l : ℕ) → Edge p mode c kind d (Initial l) → ⊥
  no_edge union.Sequential d l (x, y, a, b, h) = neither h (no_order d l) (λ r. no_read l y b r.0) (no_write_order d l x y a b) (no_from_reads d l x y a b)
  no_edge union.Location d l (x, y, a, b, h) = neither h (λ r. no_order d l r.0) (λ r. no_read l y b r.0) (no_write_order d l x y a b) (no_from_reads d l x y a b)
  no_edge union.Global d l (x, y, a, b, h) = neither h (λ r. no_order d l r.0) (λ r. no_read l y b r.0.0) (no_write_order d l x y a b) (no_from_reads d l x y a b)

-- on a way from an event every other event has an edge that leads into it
module _ (R : Event → Event → Type 0) (x : Event) (closed : (d : Event) → R d x → ⊥) where
  no_end : (d : Event) (es : List Event) → Leads R d es x → ⊥
  no_end d [] r = closed d r
  no_end d (e ∷ es) r = no_end e es r.1

  not_passed : (d z : Event) (es : List Event) → Leads R d es z → Contains es x → ⊥
  not_passed d z [] r h = let n = h.1 in omega arith
  not_passed d z (e ∷ es) r (zero, n, q) = closed d (subst (R d) q r.0)
  not_passed d z (e ∷ es) r (suc k, n, q) = not_passed e z es r.1 (k, omega arith, q)

  pub not_in_cycle : (es : List Event) → IsCycle R es → Contains es x → ⊥
  not_in_cycle [] r h = r
  not_in_cycle (e ∷ es) r (zero, n, q) = no_end e es (subst (Leads R e es) q r)
  not_in_cycle (e ∷ es) r (suc k, n, q) = not_passed e e es r (k, omega arith, q)

-- no known edge leads into an initial write
module _ (p : Listing) (mode : Machine) (k : Sketch) (fits : IsSketch p mode k) where
  no_before : (d : Event) (l : ℕ) (y : Access) → access_by p mode (given_to k) (Initial l) ≡ Some y → IsBefore k d (Initial l) y → ⊥
  no_before d l y b (inl h) = let (m, v, w, wd, we, nd, ne) = (fits.pairs d (Initial l) h).1 in
      let same : m ≡ l = sym we.2 ∙ sym (ap (λ (z : Access). z.location) (same_Some _ we.0 we.1)) in
      ne (ap Initial (sym same))
  no_before d l y b (inr h) =
      let same : l ≡ y.location = ap (λ (z : Access). z.location) (same_Some _ y b) in
      h.1 (ap Initial same ∙ sym h.0)

  no_source : (d : Event) (l : ℕ) → Contains k.sources (Initial l, d) → ⊥
  no_source d l h = let (x, v, a, r, ne, w) = fits.sources (Initial l) d h in
      not_some x.read (sym (ap (λ (z : Access). z.read) (same_Some _ x a))) (rw r refl)

  pub no_known_edge : (kind : Kind) (d : Event) (l : ℕ) → KnownEdge p mode k kind d (Initial l) → ⊥
  no_known_edge union.Sequential d l (x, y, a, b, h) = neither h (no_order d l) (no_source d l) (no_before d l y b) (λ r. no_before r.0 l y b r.2)
  no_known_edge union.Location d l (x, y, a, b, h) = neither h (λ r. no_order d l r.0) (no_source d l) (no_before d l y b) (λ r. no_before r.0 l y b r.2)
  no_known_edge union.Global d l (x, y, a, b, h) = neither h (λ r. no_order d l r.0) (λ r. no_source d l r.0) (no_before d l y b) (λ r. no_before r.0 l y b r.2)

pub no_edge_into_initial : NoEdgeLeadsIntoInitial
no_edge_into_initial p mode c kind d l is h = no_edge p mode c is kind d l h

pub cycles_of_accesses : CyclesAreOfAccesses
cycles_of_accesses p mode c kind es l is h has = not_in_cycle (Edge p mode c kind) (Initial l) (λ d r. no_edge p mode c is kind d l r) es h has

pub no_known_edge_into_initial : NoKnownEdgeLeadsIntoInitial
no_known_edge_into_initial p mode k kind d l fits h = no_known_edge p mode k fits kind d l h

pub known_cycles_of_accesses : KnownCyclesAreOfAccesses
known_cycles_of_accesses p mode k kind es l fits h has = not_in_cycle (KnownEdge p mode k kind) (Initial l) (λ d r. no_known_edge p mode k fits kind d l r) es h has
