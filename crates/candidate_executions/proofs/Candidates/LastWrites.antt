-- Each location of a candidate has a last write, and a candidate has one outcome.
use Rattle.candidate_executions.proofs.Vocabulary.{◌≡◌, ◌⊎◌, ℕ, ◌<◌, ◌≤◌, List, [], ◌∷◌, Option, Some, None, slice_get, slice_index, length, refl, sym, ap, ◌∙◌, subst, inl, inr, arith, cases_eq, cases_lt, same_Some, slice_get_within, same_number_lists}
use Rattle.candidate_executions.proofs.Vocabulary.{Listing, action, start_of, Machine, Access, Event, Initial, At, trace, fenced_gaps, Candidate, trace_of, access, Writes, IsCandidate, EndsWith, OutcomesAreOne}
use Rattle.tso_program.proofs.Found.{no_code}
use Rattle.candidate_executions.proofs.{Orders.AcyclicIsOrdered.In, Candidates.AllEvents.of_all, Candidates.AllEvents.all_in}

-- a location ends with one value
pub one_end : (p : Listing) (mode : Machine) (c : Candidate) → IsCandidate p mode c → (l v w : ℕ) → EndsWith p mode c l v → EndsWith p mode c l w → v ≡ w
one_end p mode c is l v w a b =
    let r : c.rank a.0 ≡ c.rank b.0 = (let x = b.2 a.0 v a.1 in let y = a.2 b.0 w b.1 in omega arith) in
    let e : a.0 ≡ b.0 = is.ranks a.0 b.0 l v w a.1 b.1 r in
    let x : a.1.0 ≡ b.1.0 = same_Some a.1.0 b.1.0 (sym a.1.1 ∙ (ap (access p mode c) e ∙ b.1.1)) in
    same_Some v w (sym a.1.3 ∙ (ap (λ (z : Access). z.written) x ∙ b.1.3))

pub outcomes_are_one : OutcomesAreOne
outcomes_are_one p mode c o q is a b = λ i. record { registers = registers i; memory = memory i }
  where
    registers : o.registers ≡ q.registers
    registers = a.registers ∙ sym b.registers

    memory : o.memory ≡ q.memory
    memory = same_number_lists o.memory q.memory (a.long ∙ sym b.long)
        (λ l h. let n : l < length p.memory = subst (λ z. l < z) a.long h in
        one_end p mode c is l (slice_index o.memory l) (slice_index q.memory l) (a.memory l n) (b.memory l n))

module _ (p : Listing) (mode : Machine) (c : Candidate) (l : ℕ) where
  -- a write to the location that comes after these
  record After (es : List Event) : Type 0 where
    pub event : Event
    pub value : ℕ
    pub writes : Writes (access p mode c) event l value
    pub after : (d : Event) (w : ℕ) → In d es → Writes (access p mode c) d l w → c.rank d ≤ c.rank event
    pub initial : c.rank (Initial l) ≤ c.rank event

  -- an event writes to the location or doesn't
  writes_or_not : (e : Event) → ((v : ℕ) × Writes (access p mode c) e l v) ⊎ ((v : ℕ) → Writes (access p mode c) e l v → ⊥)
  writes_or_not e = go (access p mode c e) refl
    where
      written : (x : Access) → access p mode c e ≡ Some x → x.location ≡ l → (o : Option ℕ) → x.written ≡ o →
          ((v : ℕ) × Writes (access p mode c) e l v) ⊎ ((v : ℕ) → Writes (access p mode c) e l v → ⊥)
      written x a q None r = inr (λ v w. let z : x ≡ w.0 = same_Some x w.0 (sym a ∙ w.1) in
          let y : None ≡ Some v = sym r ∙ (ap (λ (z : Access). z.written) z ∙ w.3) in cc)
      written x a q (Some v) r = inl (v, (x, a, q, r))

      go : (o : Option Access) → access p mode c e ≡ o → ((v : ℕ) × Writes (access p mode c) e l v) ⊎ ((v : ℕ) → Writes (access p mode c) e l v → ⊥)
      go None a = inr (λ v w. let z : None ≡ Some w.0 = sym a ∙ w.1 in cc)
      go (Some x) a = elim (cases_eq x.location l) [
        | inl q ↦ written x a q x.written refl
        | inr n ↦ inr (λ v w. let z : x ≡ w.0 = same_Some x w.0 (sym a ∙ w.1) in n (ap (λ (z : Access). z.location) z ∙ w.2))
      ]

  one_more : (e : Event) (es : List Event) → After es → After (e ∷ es)
  one_more e es old = elim (writes_or_not e) [
    | inr other ↦ still (λ w a. absurd (other w a))
    | inl mine ↦ elim (cases_lt (c.rank old.event) (c.rank e)) [
      | inl less ↦ record {
        event = e;
        value = mine.0;
        writes = mine.1;
        after = λ d w h a. elim h [ inl q ↦ (let z = ap c.rank q in omega arith) | inr i ↦ (let z = old.after d w i a in omega arith) ];
        initial = let z = old.initial in omega arith;
      }
      | inr more ↦ still (λ w a. more)
    ]
  ]
    where
      still : ((w : ℕ) → Writes (access p mode c) e l w → c.rank e ≤ c.rank old.event) → After (e ∷ es)
      still le = record {
        event = old.event;
        value = old.value;
        writes = old.writes;
        after = λ d w h a. elim h [ inl q ↦ rw q (le w (subst (λ z. Writes (access p mode c) z l w) q a)) | inr i ↦ old.after d w i a ];
        initial = old.initial;
      }

  last_of : (es : List Event) → After es
  last_of [] = record { event = Initial l; value = slice_index p.memory l; writes = (_, refl, refl, refl); after = λ d w h. absurd h; initial = omega arith }
  last_of (e ∷ es) = one_more e es (last_of es)

  -- the last write of all
  pub last_write : (e : Event) × (v : ℕ) × Writes (access p mode c) e l v × ((d : Event) (w : ℕ) → Writes (access p mode c) d l w → c.rank d ≤ c.rank e)
  last_write = (found.event, found.value, found.writes, all)
    where
      long : ℕ → ℕ
      long t = length (trace_of p mode c t).accesses

      found : After (of_all (λ t. length (trace_of p mode c t).accesses) (length p.threads))
      found = last_of (of_all (λ t. length (trace_of p mode c t).accesses) (length p.threads))

      all : (d : Event) (w : ℕ) → Writes (access p mode c) d l w → c.rank d ≤ c.rank found.event
      all (Initial m) w a =
          let same : m ≡ l = ap (λ (z : Access). z.location) (same_Some _ a.0 a.1) ∙ a.2 in
          let q : c.rank (Initial m) ≡ c.rank (Initial l) = ap (λ z. c.rank (Initial z)) same in
          let z = found.initial in omega arith
      all (At t i) w a = elim (cases_lt t (length p.threads)) [
        | inl h ↦ found.after (At t i) w (all_in (λ t. length (trace_of p mode c t).accesses) (length p.threads) t i h (slice_get_within (trace_of p mode c t).accesses i a.0 a.1)) a
        | inr h ↦ absurd (
            let none : (trace_of p mode c t).accesses ≡ [] =
            ap (λ n. (trace (action p.threads t) (fenced_gaps mode t) n 0 (start_of p.threads t) (c.given t)).accesses) (ap length (no_code p.threads t h)) in
            let z : slice_get [] i ≡ Some a.0 = rw none at a.1 in cc)
      ]

  pub ends_with : (v : ℕ) × EndsWith p mode c l v
  ends_with = let (e, v, w, h) = last_write in (v, (e, w, h))
