-- A thread that is not there has no accesses.
use Rattle.thread_traces.proofs.Vocabulary.{◌≡◌, ◌↔◌, ◌⊎◌, ℕ, ◌<◌, ◌≤◌, List, [], length, Contains, ap, inl, inr, arith, AllPairs, Listing, action, start_of, Machine, Event, trace, trace_by, fenced_gaps, Initial, At}
use Rattle.candidate_executions.specs.Events.{ComesBefore}
use Rattle.thread_traces.proofs.TracesKept.{no_code}

-- these events have come to the old ones, in order
pub record IsGrown (P : Event → Type 0) (old new : List Event) : Type 0 where
  pub exact : (e : Event) → Contains new e ↔ (Contains old e ⊎ P e)
  pub ordered : AllPairs ComesBefore old → AllPairs ComesBefore new

pub grown_none : (P : Event → Type 0) (old : List Event) → ((e : Event) → P e → ⊥) → IsGrown P old old
grown_none P old none = record { exact = λ e. (λ h. inl h, λ h. elim h [ inl a ↦ a | inr p ↦ absurd (none e p) ]); ordered = λ h. h }

pub later : (t i : ℕ) (e : Event) → ComesBefore e (At t 0) → ComesBefore e (At t i)
later t i (Initial l) h = tt
later t i (At u j) (inl h) = inl h
later t i (At u j) (inr h) = absurd (let n = h.1 in omega arith)

-- what has come to an empty list alone
pub below_is : (P : Event → Type 0) (new : List Event) → IsGrown P [] new → (e : Event) → Contains new e → P e
below_is P new g e has = elim ((g.exact e).0 has) [ inl (k, l, q) ↦ absurd (omega arith) | inr p ↦ p ]

-- a thread that is not there has no accesses
pub none_past_by : (p : Listing) (mode : Machine) (given : ℕ → List ℕ) (u i : ℕ) → length p.threads ≤ u → i < length (trace_by p mode given u).accesses → ⊥
none_past_by p mode given u i h l =
    let gone : (trace_by p mode given u).accesses ≡ [] = ap (λ code. (trace (action p.threads u) (fenced_gaps mode u) (length code) 0 (start_of p.threads u) (given u)).accesses) (no_code p.threads u h) in
    let none = ap length gone in
    omega arith
