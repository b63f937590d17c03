-- An order of a candidate's accesses.
use Rattle.candidate_executions.proofs.Vocabulary.{◌≡◌, ◌≢◌, ℕ, suc, zero, ◌<◌, ◌≤◌, List, [], ◌∷◌, Option, Some, Contains, slice_get, length, refl, sym, ap, subst, inl, inr, arith, AllPairs, cases_lt, slice_get_within, Listing, action, start_of, Machine}
use Rattle.candidate_executions.proofs.Vocabulary.{Access, Event, Initial, At, Kind, trace, fenced_gaps, Candidate, trace_of, access, Edge, IsAcyclic, followed_union, IsOrder}
use Rattle.tso_program.proofs.Found.{no_code}
use Rattle.candidate_executions.proofs.Orders.AcyclicIsOrdered.{In, Distinct, Ordered, Listed, listed}
use Rattle.candidate_executions.proofs.Orders.Lists.{get_some}
use Rattle.candidate_executions.proofs.Candidates.AllEvents.{of_all, all_in, in_all, distinct_all}
use Rattle.candidate_executions.proofs.Candidates.EdgesAreDecidable.{edge}

-- all accesses, each once, and no edge leads back
pub record IsLinear (at : Event → Option Access) (R : Event → Event → Type 0) (order : List Event) : Type 0 where
  pub holds : (t i : ℕ) (y : Access) → at (At t i) ≡ Some y → In (At t i) order
  pub known : (t i : ℕ) → In (At t i) order → (y : Access) × (at (At t i) ≡ Some y)
  pub no_initial : (l : ℕ) → In (Initial l) order → ⊥
  pub distinct : Distinct order
  pub ordered : Ordered R order

-- what a list holds is in it
pub contains_in : (es : List Event) (e : Event) → Contains es e → In e es
contains_in [] e (k, n, q) = absurd (omega arith)
contains_in (x ∷ es) e (zero, n, q) = inl (sym q)
contains_in (x ∷ es) e (suc k, n, q) = inr (contains_in es e (k, omega arith, q))

pub in_contains : (es : List Event) (e : Event) → In e es → Contains es e
in_contains [] e h = absurd h
in_contains (x ∷ es) e (inl q) = (zero, omega arith, sym q)
in_contains (x ∷ es) e (inr h) = let (k, n, q) = in_contains es e h in (suc k, omega arith, q)

-- what holds of all pairs holds of the first and each later one, and of all later pairs
first_pairs : (R : Event → Event → Type 0) (x : Event) (es : List Event) → AllPairs R (x ∷ es) → (e : Event) → In e es → R x e
first_pairs R x es h e i = let (k, n, q) = in_contains es e i in subst (λ z. R x z) q (h 0 (suc k) e (omega arith) (omega arith))

later_pairs : (R : Event → Event → Type 0) (x : Event) (es : List Event) → AllPairs R (x ∷ es) → AllPairs R es
later_pairs R x es h i j d a b = h (suc i) (suc j) d (omega arith) (omega arith)

pub pairs_distinct : (es : List Event) → AllPairs (λ d e. d ≢ e) es → Distinct es
pairs_distinct [] h = tt
pairs_distinct (x ∷ es) h = ((λ i. first_pairs (λ d e. d ≢ e) x es h x i refl), pairs_distinct es (later_pairs (λ d e. d ≢ e) x es h))

pub pairs_ordered : (R : Event → Event → Type 0) (es : List Event) → AllPairs (λ d e. R e d → ⊥) es → Ordered R es
pairs_ordered R [] h = tt
pairs_ordered R (x ∷ es) h = ((λ e i. first_pairs (λ d e. R e d → ⊥) x es h e i), pairs_ordered R es (later_pairs (λ d e. R e d → ⊥) x es h))

module _ (p : Listing) (mode : Machine) (c : Candidate) where
  pub order_is_linear : (order : List Event) → IsOrder p mode c order → IsLinear (access p mode c) (Edge p mode c (followed_union mode)) order
  order_is_linear order is = record {
    holds = λ t i y a. contains_in order (At t i) ((is.accesses (At t i)).1 (slice_get_within (trace_of p mode c t).accesses i y a));
    known = λ t i h. get_some (trace_of p mode c t).accesses i ((is.accesses (At t i)).0 (in_contains order (At t i) h));
    no_initial = λ l h. (is.accesses (Initial l)).0 (in_contains order (Initial l) h);
    distinct = pairs_distinct order is.distinct;
    ordered = pairs_ordered (Edge p mode c (followed_union mode)) order is.forward;
  }

  abbrev acc : ℕ → List Access
  acc t = (trace_of p mode c t).accesses

  abbrev events : List Event
  events = of_all (λ t. length (acc t)) (length p.threads)

  no_accesses : (t : ℕ) → length p.threads ≤ t → acc t ≡ []
  no_accesses t h = ap (λ n. (trace (action p.threads t) (fenced_gaps mode t) n 0 (start_of p.threads t) (c.given t)).accesses) (ap length (no_code p.threads t h))

  listed_linear : (R : Event → Event → Type 0) (list : Listed R events) → IsLinear (access p mode c) R list.list
  listed_linear R list = record {
    holds = λ t i y a. elim (cases_lt t (length p.threads)) [
      | inl lt ↦ list.holds (At t i) (all_in (λ t. length (acc t)) (length p.threads) t i lt (slice_get_within (acc t) i y a))
      | inr ge ↦ absurd (let z : slice_get [] i ≡ Some y = rw (no_accesses t ge) at a in cc)
    ];
    known = λ t i h. let (u, j, q, a, b) = in_all (λ t. length (acc t)) (length p.threads) (At t i) (list.has (At t i) h) in
        let x : u ≡ t = cc in let z : j ≡ i = cc in
        get_some (acc t) i (subst (λ w. w < length (acc t)) z (subst (λ w. j < length (acc w)) x b));
    no_initial = λ l h. let (t, i, q, a, b) = in_all (λ t. length (acc t)) (length p.threads) (Initial l) (list.has (Initial l) h) in cc;
    distinct = list.distinct (distinct_all (λ t. length (acc t)) (length p.threads));
    ordered = list.ordered;
  }

  -- where a union has no cycle there is one
  pub linear : (kind : Kind) → IsAcyclic (Edge p mode c kind) → (order : List Event) × IsLinear (access p mode c) (Edge p mode c kind) order
  linear kind acyclic =
      let list = listed events (Edge p mode c kind) (edge p mode c kind) acyclic in
      (list.list, listed_linear (Edge p mode c kind) list)
