-- How the threads stand after a step of the run.
use Rattle.candidate_executions.proofs.Vocabulary.{◌≡◌, ℕ, suc, zero, ◌<◌, ◌≤◌, List, [], ◌∷◌, ◌++◌, Some, None, IsSome, slice_get, map, drop, refl, sym, ap, ap₂, ◌∙◌, subst, inl, inr, arith, length, cases_lt, cases_eq, same_Some, slice_get_within, Listing}
use Rattle.candidate_executions.proofs.Vocabulary.{put, Local, action, Gaps, Machine, StoreBufferMachine, Pending, Access, Event, At, Candidate, trace_of, IsCandidate, Trace, trace, steps, steps_by, Edge, IsAcyclic, map_push}
use Rattle.candidate_executions.specs.declared.event.Kind.TheVariants as union
use Rattle.candidate_executions.proofs.{Orders.Lists.get_end, Orders.Lists.get_front, Orders.Lists.get_cases, Orders.Lists.put_both, Orders.AcyclicIsOrdered.In}
use Rattle.candidate_executions.proofs.{Candidates.EdgesAreDecidable.same_event, Candidates.WrittenValues.store_of}
use Rattle.candidate_executions.proofs.ToRuns.Standing.{at, acc, G, W, store, own, write_g, steps_from, Stands, Has, Shared}
use Rattle.candidate_executions.proofs.ToRuns.ReadsTheRightValue.{not_kept}

module _ (p : Listing) (gaps : Gaps) (c : Candidate) (is : IsCandidate p (StoreBufferMachine gaps) c) (loc : IsAcyclic (Edge p (StoreBufferMachine gaps) c union.Location)) where
  abbrev pub mode : Machine
  mode = StoreBufferMachine gaps

  abbrev pub final : ℕ → Local
  final t = (trace_of p mode c t).last

  abbrev pub left : ℕ → ℕ → Trace
  left t d = record { accesses = drop d (acc p gaps c is loc t); last = final t; unused = [] }

  abbrev pub Stand : ℕ → Local → List Pending → List (ℕ × Event) → ℕ → List Event → ℕ → ℕ → Type 0
  Stand t local buffer waits count rest k n = Stands p gaps c is loc t local buffer waits count rest k n

  -- the next access is made by the next instruction
  abbrev pub MadeNext : ℕ → ℕ → ℕ → Type 0
  MadeNext t d n = slice_get (steps_by p c.given t).accesses d ≡ Some (suc n)

  made_past : (t d n j m : ℕ) → MadeNext t d n → ((j m : ℕ) → j < d → slice_get (steps_by p c.given t).accesses j ≡ Some m → m ≤ n) → j < suc d →
      slice_get (steps_by p c.given t).accesses j ≡ Some m → m ≤ suc n
  made_past t d n j m made before b a = elim (cases_lt j d) [
    | inl lt ↦ (let z = before j m lt a in omega arith)
    | inr ge ↦ (let q : j ≡ d = omega arith in let z : m ≡ suc n = same_Some m (suc n) (sym a ∙ (ap (slice_get (steps_by p c.given t).accesses) q ∙ made)) in omega arith)
  ]

  abbrev pub Share : (ℕ → ℕ) → (ℕ → Event) → List Event → Type 0
  Share memory origins rest = Shared p gaps c is loc memory origins rest

  pub quiet_stands : (t : ℕ) (local : Local) (buffer : List Pending) (waits : List (ℕ × Event)) (count : ℕ) (rest : List Event) (fuel n : ℕ) (mine : Stand t local buffer waits count rest fuel n)
      (next : Local) (k m : ℕ) (given : List ℕ) → mine.section ≤ m → trace (action p.threads t) (gaps t) k m next given ≡ left t mine.done →
      steps (action p.threads t) k (suc n) next given ≡ steps_from p gaps c is loc t mine.done → Stand t next buffer waits count rest k (suc n)
  quiet_stands t local buffer waits count rest fuel n mine next k m given h e f = record {
    done = mine.done;
    section = m;
    queue = mine.queue;
    given = given;
    plays = e;
    counts = f;
    past = λ j m a b. let z = mine.past j m a b in omega arith;
    behind = mine.behind;
    plain = mine.plain;
    buffer_is = mine.buffer_is;
    waits_are = mine.waits_are;
    count_is = mine.count_is;
    queued = mine.queued;
    in_queue = mine.in_queue;
    rising = mine.rising;
    early = λ j y a b n. let z = mine.early j y a b n in omega arith;
  }

  pub write_stands : (t : ℕ) (local : Local) (buffer : List Pending) (waits : List (ℕ × Event)) (count : ℕ) (rest : List Event) (fuel n : ℕ) (mine : Stand t local buffer waits count rest fuel n)
      (next : Local) (k m l v : ℕ) (given : List ℕ) → mine.section ≤ m →
      slice_get (acc p gaps c is loc t) mine.done ≡ Some (record { section = m; location = l; read = None; written = Some v }) →
      trace (action p.threads t) (gaps t) k m next given ≡ left t (suc mine.done) →
      steps (action p.threads t) k (suc n) next given ≡ steps_from p gaps c is loc t (suc mine.done) → MadeNext t mine.done n →
      Stand t next (buffer ++ record { location = l; value = v } ∷ []) (waits ++ (l, At t count) ∷ []) (suc count) rest k (suc n)
  write_stands t local buffer waits count rest fuel n mine next k m l v given h a e f made = record {
    done = suc mine.done;
    section = m;
    queue = mine.queue ++ mine.done ∷ [];
    given = given;
    plays = e;
    counts = f;
    past = λ j m. made_past t mine.done n j m made mine.past;
    behind = λ i y b n. mine.behind i y b (omega arith);
    plain = λ i y b n w. elim (cases_lt i mine.done) [
      | inl lt ↦ mine.plain i y b lt w
      | inr ge ↦ (let q : i ≡ mine.done = omega arith in let z : y ≡ new = same i y q b in rw z (refl, refl))
    ];
    buffer_is = ap₂ (λ b (w : Pending). b ++ w ∷ []) mine.buffer_is (sym (ap store_of a)) ∙ sym (map_push (store p gaps c is loc t) mine.queue mine.done);
    waits_are = ap₂ (λ b (w : ℕ × Event). b ++ w ∷ []) mine.waits_are (λ i. (sym (ap (λ o. (store_of o).location) a) i, At t (mine.count_is i))) ∙ sym (map_push (own p gaps c is loc t) mine.queue mine.done);
    count_is = ap suc mine.count_is;
    queued = λ q j b. elim (get_cases mine.queue mine.done q j b) [
      | inl o ↦ (let z = mine.queued q j o in (omega arith, z.1))
      | inr o ↦ rw o.1 (omega arith, mine.behind mine.done new a (omega arith))
    ];
    in_queue = λ j n w. elim (cases_lt j mine.done) [
      | inl lt ↦ (let (q, b) = mine.in_queue j lt w in (q, get_front mine.queue mine.done q j b))
      | inr ge ↦ (let q : mine.done ≡ j = omega arith in (length mine.queue, get_end mine.queue mine.done ∙ ap Some q))
    ];
    rising = λ q r i j n b d. elim (get_cases mine.queue mine.done q i b) [
      | inl x ↦ elim (get_cases mine.queue mine.done r j d) [
        | inl y ↦ mine.rising q r i j n x y
        | inr y ↦ (let z = (mine.queued q i x).0 in let w = y.1 in omega arith)
      ]
      | inr x ↦ elim (get_cases mine.queue mine.done r j d) [
        | inl y ↦ absurd (let z = slice_get_within mine.queue r j y in let w = x.0 in omega arith)
        | inr y ↦ absurd (let z = y.0 in let w = x.0 in omega arith)
      ]
    ];
    early = λ j y b n w. elim (cases_lt j mine.done) [
      | inl lt ↦ (let z = mine.early j y b lt w in omega arith)
      | inr ge ↦ (let q : j ≡ mine.done = omega arith in let z : y ≡ new = same j y q b in rw z (omega arith))
    ];
  }
    where
      new : Access
      new = record { section = m; location = l; read = None; written = Some v }

      same : (j : ℕ) (y : Access) → j ≡ mine.done → slice_get (acc p gaps c is loc t) j ≡ Some y → y ≡ new
      same j y q b = same_Some y new (sym b ∙ (ap (slice_get (acc p gaps c is loc t)) q ∙ a))

  -- an event is still to come where it is not the one that leaves
  stays : (e d : Event) (rest : List Event) → (e ≡ d → ⊥) → In e (d ∷ rest) → In e rest
  stays e d rest n (inl q) = absurd (n q)
  stays e d rest n (inr h) = h

  not_i : (t i j : ℕ) (rest : List Event) → (j ≡ i → ⊥) → In (At t j) (At t i ∷ rest) → In (At t j) rest
  not_i t i j rest f = stays (At t j) (At t i) rest (λ q. f cc)

  pub other_stands : (t i u : ℕ) → (u ≡ t → ⊥) → (local : Local) (buffer : List Pending) (waits : List (ℕ × Event)) (count : ℕ) (rest : List Event) (k e : ℕ) →
      Stand u local buffer waits count (At t i ∷ rest) k e → Stand u local buffer waits count rest k e
  other_stands t i u n local buffer waits count rest k e s = record {
    done = s.done;
    section = s.section;
    queue = s.queue;
    given = s.given;
    plays = s.plays;
    counts = s.counts;
    past = s.past;
    behind = λ j y a b. stays (At u j) (At t i) rest (λ q. n cc) (s.behind j y a b);
    plain = λ j y a b w. s.plain j y a b (inr w);
    buffer_is = s.buffer_is;
    waits_are = s.waits_are;
    count_is = s.count_is;
    queued = λ q j a. let z = s.queued q j a in (z.0, stays (At u j) (At t i) rest (λ q. n cc) z.1);
    in_queue = λ j b w. s.in_queue j b (inr w);
    rising = s.rising;
    early = λ j y a b w. s.early j y a b (inr w);
  }

  -- a read or an exchange leaves the rest
  pub read_stands : (t i : ℕ) (local : Local) (buffer : List Pending) (waits : List (ℕ × Event)) (count : ℕ) (rest : List Event) (fuel x : ℕ) (mine : Stand t local buffer waits count (At t i ∷ rest) fuel x)
      (next : Local) (k m : ℕ) (given : List ℕ) → mine.section ≤ m → mine.done ≡ i → (In (At t i) rest → ⊥) →
      trace (action p.threads t) (gaps t) k m next given ≡ left t (suc mine.done) →
      steps (action p.threads t) k (suc x) next given ≡ steps_from p gaps c is loc t (suc mine.done) → MadeNext t mine.done x → Stand t next buffer waits (suc count) rest k (suc x)
  read_stands t i local buffer waits count rest fuel x s next k m given h d n e f made = record {
    done = suc s.done;
    section = m;
    queue = s.queue;
    given = given;
    plays = e;
    counts = f;
    past = λ j m. made_past t s.done x j m made s.past;
    behind = λ j y a b. not_i t i j rest (λ q. omega arith) (s.behind j y a (omega arith));
    plain = λ j y a b w. s.plain j y a (below j b w) (inr w);
    buffer_is = s.buffer_is;
    waits_are = s.waits_are;
    count_is = ap suc s.count_is;
    queued = λ q j a. let z = s.queued q j a in (omega arith, not_i t i j rest (λ q. omega arith) z.1);
    in_queue = λ j b w. s.in_queue j (below j b w) (inr w);
    rising = s.rising;
    early = λ j y a b w. let z = s.early j y a (below j b w) (inr w) in omega arith;
  }
    where
      below : (j : ℕ) → j < suc s.done → In (At t j) rest → j < s.done
      below j b w = elim (cases_eq j i) [ inl q ↦ absurd (n (subst (λ z. In (At t z) rest) q w)) | inr q ↦ omega arith ]

  -- what is shared, once the event has left the rest
  pub shared_next : (e : Event) (rest : List Event) (memory after : ℕ → ℕ) (origins later : ℕ → Event) → Share memory origins (e ∷ rest) →
      ((l : ℕ) → Has p gaps c is loc rest l (after l) (later l)) → Share after later rest
  shared_next e rest memory after origins later s has = record {
    has = has;
    known = λ t i w. s.known t i (inr w);
    initial = λ l w. s.initial l (inr w);
    ordered = s.ordered.1;
    distinct = s.distinct.1;
    closed = λ d f n w g. elim (same_event d e) [
      | inl q ↦ s.ordered.0 f w (subst (λ z. G p gaps c is loc f z) q g)
      | inr ne ↦ s.closed d f (λ z. elim z [ inl q ↦ ne q | inr k ↦ n k ]) (inr w) g
    ];
  }

  -- memory that the event does not write
  pub has_still : (e : Event) (rest : List Event) (l v : ℕ) (d : Event) → Has p gaps c is loc (e ∷ rest) l v d → ((w : ℕ) → W p gaps c is loc e l w → ⊥) → Has p gaps c is loc rest l v d
  has_still e rest l v d h none = record {
    event = h.event;
    origin_is = h.origin_is;
    writes = h.writes;
    past = λ w. h.past (inr w);
    last = λ d w a n. elim (same_event d e) [
      | inl q ↦ absurd (none w (subst (λ z. W p gaps c is loc z l w) q a))
      | inr ne ↦ h.last d w a (λ z. elim z [ inl q ↦ ne q | inr k ↦ n k ])
    ];
  }

  has_new : (e : Event) (rest : List Event) (memory : ℕ → ℕ) (origins : ℕ → Event) (l v : ℕ) → Share memory origins (e ∷ rest) → W p gaps c is loc e l v → Has p gaps c is loc rest l v e
  has_new e rest memory origins l v s a = record {
    event = e;
    origin_is = refl;
    writes = a;
    past = s.distinct.0;
    last = λ d w b n. elim (same_event d e) [
      | inl q ↦ (let z : c.rank d ≡ c.rank e = ap c.rank q in omega arith)
      | inr ne ↦ elim (cases_lt (c.rank e) (c.rank d)) [
        | inl lt ↦ absurd (s.closed d e (λ z. elim z [ inl q ↦ ne q | inr k ↦ n k ]) (inl refl) (write_g p gaps c is loc e d l v w a b lt))
        | inr ge ↦ ge
      ]
    ];
  }

  -- memory after the event's write
  pub has_after : (e : Event) (rest : List Event) (memory : ℕ → ℕ) (origins : ℕ → Event) (l v : ℕ) → Share memory origins (e ∷ rest) → W p gaps c is loc e l v →
      (k : ℕ) → Has p gaps c is loc rest k (put memory l v k) (put origins l e k)
  has_after e rest memory origins l v s a = put_both (Has p gaps c is loc rest) memory origins l v e (has_new e rest memory origins l v s a)
      (λ k n. has_still e rest k (memory k) (origins k) (s.has k)
      (λ w b. n (let same : b.0 ≡ a.0 = same_Some b.0 a.0 (sym b.1 ∙ a.1) in sym b.2 ∙ ap (λ (z : Access). z.location) same ∙ a.2)))

  -- an executed store is the oldest in its buffer when its turn comes
  pub record Flushed (t i : ℕ) (local : Local) (buffer : List Pending) (waits : List (ℕ × Event)) (count : ℕ) (rest : List Event) (fuel n : ℕ) : Type 0 where
    pub others : List Pending
    pub buffer_is : buffer ≡ store p gaps c is loc t i ∷ others
    pub others_wait : List (ℕ × Event)
    pub waits_are : waits ≡ own p gaps c is loc t i ∷ others_wait
    pub stands : Stand t local others others_wait count rest fuel n

  pub flush_stands : (t i : ℕ) (rest : List Event) (y : Access) (here : at p gaps c is loc (At t i) ≡ Some y) (local : Local) (buffer : List Pending) (waits : List (ℕ × Event)) (count : ℕ) (memory : ℕ → ℕ) (origins : ℕ → Event) (fuel n : ℕ)
      (mine : Stand t local buffer waits count (At t i ∷ rest) fuel n) → Share memory origins (At t i ∷ rest) → i < mine.done → Flushed t i local buffer waits count rest fuel n
  flush_stands t i rest y here local buffer waits count memory origins fuel n mine shared lt = go mine.queue refl
    where
      writes : IsSome y.written
      writes = (mine.plain i y here lt (inl refl)).1

      go : (q : List ℕ) → mine.queue ≡ q → Flushed t i local buffer waits count rest fuel n
      go [] e = absurd (let (q, a) = mine.in_queue i lt (inl refl) in let b : slice_get [] q ≡ Some i = rw e at a in cc)
      go (j ∷ js) e = record {
        others = map (store p gaps c is loc t) js;
        buffer_is = mine.buffer_is ∙ (ap (map (store p gaps c is loc t)) e ∙ ap (λ z. store p gaps c is loc t z ∷ map (store p gaps c is loc t) js) first);
        others_wait = map (own p gaps c is loc t) js;
        waits_are = mine.waits_are ∙ (ap (map (own p gaps c is loc t)) e ∙ ap (λ z. own p gaps c is loc t z ∷ map (own p gaps c is loc t) js) first);
        stands = record {
          done = mine.done;
          section = mine.section;
          queue = js;
          given = mine.given;
          plays = mine.plays;
          counts = mine.counts;
          past = mine.past;
          behind = λ k x a b. not_i t i k rest (λ q. omega arith) (mine.behind k x a b);
          plain = λ k x a b w. mine.plain k x a b (inr w);
          buffer_is = refl;
          waits_are = refl;
          count_is = mine.count_is;
          queued = λ q k a. let a' : slice_get mine.queue (suc q) ≡ Some k = rw e a in let z = mine.queued (suc q) k a' in
              (z.0, not_i t i k rest (λ r. let h : i < k = mine.rising 0 (suc q) i k (omega arith) (rw e (ap Some first)) a' in omega arith) z.1);
          in_queue = λ k b w. let (q, a) = mine.in_queue k b (inr w) in at_place k w q (rw e at a);
          rising = λ q r k m n a b. mine.rising (suc q) (suc r) k m (omega arith) (rw e a) (rw e b);
          early = λ k x a b w. mine.early k x a b (inr w);
        };
      }
        where
          here_j : (j < mine.done) × In (At t j) (At t i ∷ rest)
          here_j = mine.queued 0 j (rw e refl)

          by_place : (q : ℕ) → slice_get (j ∷ js) q ≡ Some i → j ≡ i
          by_place zero a = cc
          by_place (suc q) a = absurd (
              let (x, b) = shared.known t j here_j.1 in
              let before : j < i = mine.rising 0 (suc q) j i (omega arith) (rw e refl) (rw e a) in
              not_kept p gaps c is loc t i rest y here local buffer waits count memory origins fuel n mine shared j x b here_j.1 before (inr (inl writes)))

          first : j ≡ i
          first = let (q, a) = mine.in_queue i lt (inl refl) in by_place q (rw e at a)

          at_place : (k : ℕ) → In (At t k) rest → (q : ℕ) → slice_get (j ∷ js) q ≡ Some k → (q : ℕ) × (slice_get js q ≡ Some k)
          at_place k w zero a = absurd (let z : j ≡ k = cc in let y : k ≡ i = sym z ∙ first in shared.distinct.0 (subst (λ x. In (At t x) rest) y w))
          at_place k w (suc q) a = (q, a)
