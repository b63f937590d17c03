-- A consistent candidate of sequential consistency has a run along each order that the union Sequential allows: the states of the run
-- are those of a store buffer machine with no gap fenced, each store flushed at once.
use Rattle.candidate_executions.proofs.Vocabulary.{◌≡◌, ℕ, suc, zero, ◌+◌, ◌-◌, ◌<◌, ◌≤◌, List, [], ◌∷◌, ◌++◌, Some, None, slice_get, map, refl, sym, ap, ◌∙◌, subst, inl, inr, arith, cases_lt, cases_eq, Listing, loaded, Local, Action, Go, Wait, Read, Write}
use Rattle.candidate_executions.proofs.Vocabulary.{Swap, action, Outcome, put, SequentialMachine, StoreBufferMachine, no_gaps, State, newest, found, step, start, Label, Exec, Access, Event, Initial, At, Candidate, access, IsCandidate, HasOutcome, Trace, trace}
use Rattle.candidate_executions.proofs.Vocabulary.{traced, Edge, IsAcyclic, steps, steps_by, counted, execs, labels_along, Origins, first_origins, Takes, Arrives, found_write, with_made, with_memory, direct_origins, direct_marks, origins_after, marks_at}
use Rattle.candidate_executions.proofs.Vocabulary.{with_access}
use Rattle.candidate_executions.specs.declared.event.Kind.TheVariants as union
use Rattle.candidate_executions.proofs.{Orders.Lists.put_same, Orders.Lists.put_other, Orders.Dropped.drop_none, Orders.AcyclicIsOrdered.In, Orders.AcyclicIsOrdered.Ordered}
use Rattle.candidate_executions.proofs.{Orders.WiderRelations.acyclic_narrower, Orders.WiderRelations.ordered_narrower, ToRuns.Linear.IsLinear}
use Rattle.candidate_executions.proofs.ToRuns.Standing.{at, acc, G, store, steps_from}
use Rattle.candidate_executions.proofs.ToRuns.ReadsTheRightValue.{no_waits, right_write, right_value}
use Rattle.candidate_executions.proofs.ToRuns.StandingOn.{left, Stand, Share, quiet_stands}
use Rattle.candidate_executions.proofs.ToRuns.EventsAreReached.{Goal, Sim, tail_plays, to_come, exec_first, none_left, is_y, has_read, has_written, meets}
use Rattle.candidate_executions.proofs.ToRuns.RunsAreFinished.{IsQuiet, finish, step_of}
use Rattle.candidate_executions.proofs.ToRuns.CandidatesHaveRuns.{begin, IsRunAlong, with_outcome}

module _ (p : Listing) (c : Candidate) where
  abbrev S : Event → Event → Type 0
  S = Edge p SequentialMachine c union.Sequential

  of_location : (d e : Event) → Edge p (StoreBufferMachine no_gaps) c union.Location d e → S d e
  of_location d e r = (r.0, r.1, r.2, r.3, elim r.4 [ inl a ↦ inl a.0 | inr a ↦ inr a ])

module _ (p : Listing) (c : Candidate) (is : IsCandidate p (StoreBufferMachine no_gaps) c) (loc : IsAcyclic (Edge p (StoreBufferMachine no_gaps) c union.Location)) where
  abbrev Mine : ℕ → State → Origins → List Event → ℕ → ℕ → Type 0
  Mine t s o rest k e = Stand p no_gaps c is loc t (s.locals t) (s.buffers t) (o.waiting t) (o.made t) rest k e

  abbrev Sims : State → Origins → (ℕ → ℕ) → List Event → Type 0
  Sims s o done rest = Sim p no_gaps c is loc s o done rest

  abbrev Goals : State → Origins → List Event → List Label → Type 0
  Goals s o rest labels = Goal p no_gaps c is loc SequentialMachine s o rest labels

  -- no store waits
  abbrev Empty : State → Type 0
  Empty s = (t : ℕ) → s.buffers t ≡ []

  module _ (t i : ℕ) (rest : List Event) (y : Access) (here : at p no_gaps c is loc (At t i) ≡ Some y) (first : (d : Event) → In d rest → S p c d (At t i) → ⊥) (done : ℕ → ℕ) (n : ℕ)
      (made : slice_get (steps_by p c.given t).accesses i ≡ Some n) (labels : List Label)
      (ih : (s : State) (o : Origins) → Empty s → Sims s o (put done t (done t + (n - done t))) rest → Goals s o rest labels) where
    abbrev all : List Event
    all = At t i ∷ rest

    abbrev after_it : ℕ
    after_it = done t + (n - done t)

    abbrev Others : State → Origins → Type 0
    Others s o = (u : ℕ) → (u ≡ t → ⊥) → (k : ℕ) × Mine u s o all k (done u)

    abbrev Shares : State → Origins → Type 0
    Shares s o = Share p no_gaps c is loc s.memory o.memory all

    module _ (k e : ℕ) (s : State) (o : Origins) (empty : Empty s) (others : Others s o) (mine : Mine t s o all (suc k) e) (shared : Shares s o) (ge : mine.done ≤ i)
        (low : done t ≤ e) (high : e ≤ after_it)
        (again : (s : State) (o : Origins) → Empty s → Others s o → Mine t s o all k (suc e) → Shares s o → suc e ≤ after_it → Goals s o all (execs t (n - suc e) ++ labels)) where
      abbrev m : ℕ
      m = mine.section

      goes_on : (next : Local) → step p SequentialMachine s (Exec t) ≡ Some (record s { locals = put s.locals t next }) → origins_after p SequentialMachine s o (Exec t) ≡ o → marks_at p SequentialMachine s o (Exec t) ≡ [] →
          (x : ℕ) (given : List ℕ) → mine.section ≤ x →
          trace (action p.threads t) (no_gaps t) k x next given ≡ left p no_gaps c is loc t mine.done →
          steps (action p.threads t) k (suc e) next given ≡ steps_from p no_gaps c is loc t mine.done → Goals s o all (execs t (n - e) ++ labels)
      goes_on next st a b x given h f g = let lt = to_come p no_gaps c is loc SequentialMachine (λ b. (t : ℕ) → b t ≡ []) t i rest y here done n made labels ih k e s o empty others mine shared ge low high in
          exec_first p no_gaps c is loc SequentialMachine (λ b. (t : ℕ) → b t ≡ []) t i rest y here done n made labels ih k e s o empty others mine shared ge low high labels (record s { locals = put s.locals t next }) o all [] st a b refl
          (again (record s { locals = put s.locals t next }) o empty (λ u n. let (k, x) = others u n in (k, rw (put_other s.locals t next u n) x))
          (rw put_same (quiet_stands p no_gaps c is loc t (s.locals t) (s.buffers t) (o.waiting t) (o.made t) all (suc k) e mine next k x given h f g)) shared (omega arith))

      -- an earlier access would have to come first
      is_now : (a : Access) → slice_get (acc p no_gaps c is loc t) mine.done ≡ Some a → mine.done ≡ i
      is_now a b = elim (cases_eq mine.done i) [
        | inl q ↦ q
        | inr n ↦ absurd (let lt : mine.done < i = omega arith in elim (mine.behind mine.done a b (omega arith)) [
          | inl q ↦ (let z : mine.done ≡ i = cc in n z)
          | inr h ↦ first (At t mine.done) h (a, y, b, here, inl (refl, lt))
        ])
      ]

      -- what a read finds in memory
      value_of : (l v : ℕ) → y.location ≡ l → y.read ≡ Some v → mine.done ≡ i → s.memory l ≡ v
      value_of l v q reads now = subst (λ z. s.memory z ≡ v) q
          (sym (ap (λ b. found (newest y.location b) (s.memory y.location)) (empty t)) ∙
          right_value p no_gaps c is loc t i rest y here (s.locals t) (s.buffers t) (o.waiting t) (o.made t) s.memory o.memory (suc k) e mine shared v reads now)

      -- and by which write
      write_of : (l v : ℕ) → y.location ≡ l → y.read ≡ Some v → mine.done ≡ i → o.memory l ≡ c.source (At t i)
      write_of l v q reads now = subst (λ z. o.memory z ≡ c.source (At t i)) q
          (sym (ap (λ b. found_write y.location b (o.memory y.location)) (no_waits p no_gaps c is loc t i rest y here (s.locals t) (s.buffers t) (o.waiting t) (o.made t) s.memory o.memory (suc k) e mine shared (empty t))) ∙
          right_write p no_gaps c is loc t i rest y here (s.locals t) (s.buffers t) (o.waiting t) (o.made t) s.memory o.memory (suc k) e mine shared v reads now)

      -- it is the event's turn
      turn : (x : Access) (T : Trace) → with_access x T ≡ left p no_gaps c is loc t mine.done → (mine.done ≡ i) × (x ≡ y)
      turn x T h = let now = is_now x (tail_plays p no_gaps c is loc x T t mine.done h).0 in (now, is_y p no_gaps c is loc SequentialMachine (λ b. (t : ℕ) → b t ≡ []) t i rest y here done n made labels ih k e s o empty others mine shared ge low high x T h now)

      on_action : (a : Action) → action p.threads t (s.locals t) ≡ a → (given : List ℕ) →
          traced (trace (action p.threads t) (no_gaps t) k) m (s.locals t) a given ≡ left p no_gaps c is loc t mine.done →
          counted (steps (action p.threads t) k) e a given ≡ steps_from p no_gaps c is loc t mine.done → Goals s o all (execs t (n - e) ++ labels)
      on_action (Go next) q given h f = goes_on next (rw q refl) (ap (direct_origins o t) q) (ap (direct_marks s o t) q) m given (omega arith) h f
      on_action (Wait next) q given h f = goes_on next (rw q refl) (ap (direct_origins o t) q) (ap (direct_marks s o t) q) (suc m) given (omega arith) h f
      on_action (Write l v next) q given h f =
          let x : Access = record { section = m; location = l; read = None; written = Some v } in
          let (now, same) = turn x (trace (action p.threads t) (no_gaps t) k m next given) h in
          let it : o.made t ≡ i = mine.count_is ∙ now in
          meets p no_gaps c is loc SequentialMachine (λ b. (t : ℕ) → b t ≡ []) t i rest y here done n made labels ih k e s o empty others mine shared ge low high x next m given (put s.memory l v) (put o.memory l (At t i)) (omega arith) now h f (rw q refl)
          (ap (direct_origins o t) q ∙ (λ j. with_made (with_memory o l (At t (it j))) t)) (ap (direct_marks s o t) q ∙ (λ j. Arrives (At t (it j)) ∷ []))
          (λ r. has_written p no_gaps c is loc SequentialMachine (λ b. (t : ℕ) → b t ≡ []) t i rest y here done n made labels ih k e s o empty others mine shared ge low high l v r (sym (ap (λ (z : Access). z.location) same)) (sym (ap (λ (z : Access). z.written) same)))
      on_action (Read l to next) q (v ∷ given) h f =
          let x : Access = record { section = m; location = l; read = Some v; written = None } in
          let (now, same) = turn x (trace (action p.threads t) (no_gaps t) k m (loaded to v next) given) h in
          let value : s.memory l ≡ v = value_of l v (sym (ap (λ (z : Access). z.location) same)) (sym (ap (λ (z : Access). z.read) same)) now in
          let write : o.memory l ≡ c.source (At t i) = write_of l v (sym (ap (λ (z : Access). z.location) same)) (sym (ap (λ (z : Access). z.read) same)) now in
          let it : o.made t ≡ i = mine.count_is ∙ now in
          meets p no_gaps c is loc SequentialMachine (λ b. (t : ℕ) → b t ≡ []) t i rest y here done n made labels ih k e s o empty others mine shared ge low high x (loaded to v next) m given s.memory o.memory (omega arith) now h f
          (rw q (ap (λ v. Some (record s { locals = put s.locals t (loaded to v next) })) value))
          (ap (direct_origins o t) q) (ap (direct_marks s o t) q ∙ (λ j. Takes (At t (it j)) (value j) (write j) ∷ []))
          (has_read p no_gaps c is loc SequentialMachine (λ b. (t : ℕ) → b t ≡ []) t i rest y here done n made labels ih k e s o empty others mine shared ge low high (sym (ap (λ (z : Access). z.written) same)))
      on_action (Swap l w to next) q (v ∷ given) h f =
          let x : Access = record { section = m; location = l; read = Some v; written = Some w } in
          let (now, same) = turn x (trace (action p.threads t) (no_gaps t) k (suc m) (loaded to v next) given) h in
          let value : s.memory l ≡ v = value_of l v (sym (ap (λ (z : Access). z.location) same)) (sym (ap (λ (z : Access). z.read) same)) now in
          let write : o.memory l ≡ c.source (At t i) = write_of l v (sym (ap (λ (z : Access). z.location) same)) (sym (ap (λ (z : Access). z.read) same)) now in
          let it : o.made t ≡ i = mine.count_is ∙ now in
          meets p no_gaps c is loc SequentialMachine (λ b. (t : ℕ) → b t ≡ []) t i rest y here done n made labels ih k e s o empty others mine shared ge low high x (loaded to v next) (suc m) given (put s.memory l w) (put o.memory l (At t i)) (omega arith) now h f
          (rw q (ap (λ v. Some (record s { locals = put s.locals t (loaded to v next); memory = put s.memory l w })) value))
          (ap (direct_origins o t) q ∙ (λ j. with_made (with_memory o l (At t (it j))) t)) (ap (direct_marks s o t) q ∙ (λ j. Takes (At t (it j)) (value j) (write j) ∷ Arrives (At t (it j)) ∷ []))
          (λ r. has_written p no_gaps c is loc SequentialMachine (λ b. (t : ℕ) → b t ≡ []) t i rest y here done n made labels ih k e s o empty others mine shared ge low high l w r (sym (ap (λ (z : Access). z.location) same)) (sym (ap (λ (z : Access). z.written) same)))
      on_action a q given h f = none_left p no_gaps c is loc SequentialMachine (λ b. (t : ℕ) → b t ≡ []) t i rest y here done n made labels ih k e s o empty others mine shared ge low high given _ h

    -- no store of the event waits, since none waits
    not_executed : (s : State) (o : Origins) (k e : ℕ) → Empty s → (mine : Mine t s o all k e) → i < mine.done → ⊥
    not_executed s o k e empty mine lt =
        let (q, a) = mine.in_queue i lt (inl refl) in
        let none : map (store p no_gaps c is loc t) mine.queue ≡ [] = sym mine.buffer_is ∙ empty t in
        no_place mine.queue q none a
      where
        no_place : (queue : List ℕ) (q : ℕ) → map (store p no_gaps c is loc t) queue ≡ [] → slice_get queue q ≡ Some i → ⊥
        no_place [] q e a = cc
        no_place (j ∷ js) q e a = cc

    pub reach_direct : (k e : ℕ) (s : State) (o : Origins) → Empty s → Others s o → Mine t s o all k e → Shares s o → done t ≤ e → e ≤ after_it → Goals s o all (execs t (n - e) ++ labels)
    reach_direct zero e s o empty others mine shared low high = elim (cases_lt i mine.done) [
      | inl lt ↦ absurd (not_executed s o zero e empty mine lt)
      | inr ge ↦ absurd (drop_none mine.done i (acc p no_gaps c is loc t) y (sym (ap (λ (z : Trace). z.accesses) mine.plays)) here ge)
    ]
    reach_direct (suc k) e s o empty others mine shared low high = elim (cases_lt i mine.done) [
      | inl lt ↦ absurd (not_executed s o (suc k) e empty mine lt)
      | inr ge ↦ on_action k e s o empty others mine shared ge low high (λ s o empty a x h z. reach_direct k (suc e) s o empty a x h (omega arith) z) (action p.threads t (s.locals t)) refl mine.given mine.plays mine.counts
    ]

  quiet_direct : IsQuiet p no_gaps c is loc SequentialMachine
  quiet_direct s o t next empty (inl q) = (rw q refl, ap (direct_origins o t) q, ap (direct_marks s o t) q)
  quiet_direct s o t next empty (inr q) = (rw q refl, ap (direct_origins o t) q, ap (direct_marks s o t) q)

  direct_all : (rest : List Event) (s : State) (o : Origins) (done : ℕ → ℕ) → Ordered (S p c) rest → Empty s → Sims s o done rest → Goals s o rest (labels_along p SequentialMachine c.given done rest)
  direct_all [] s o done ordered empty sim = finish p no_gaps c is loc SequentialMachine quiet_direct s o done sim
  direct_all (Initial l ∷ rest) s o done ordered empty sim = absurd (sim.shared.initial l (inl refl))
  direct_all (At t i ∷ rest) s o done ordered empty sim =
      let (y, here) = sim.shared.known t i (inl refl) in
      let (n, made, is_n) = step_of p no_gaps c is loc t i y here in
      let (k, mine) = sim.threads t in
      let low : done t ≤ done t + (n - done t) = omega arith in
      let run = reach_direct t i rest y here ordered.0 done n made (labels_along p SequentialMachine c.given (put done t (done t + (n - done t))) rest)
      (λ s o empty sim. direct_all rest s o (put done t (done t + (n - done t))) ordered.1 empty sim) k (done t) s o empty (λ u n. sim.threads u) mine sim.shared (omega arith) low in
      subst (λ z. Goals s o (At t i ∷ rest) (execs t (z - done t) ++ labels_along p SequentialMachine c.given (put done t (done t + (z - done t))) rest)) (sym is_n) run

pub runs_directly_along : (p : Listing) (c : Candidate) (o : Outcome) (order : List Event) → IsCandidate p SequentialMachine c → IsAcyclic (S p c) →
    IsLinear (access p SequentialMachine c) (S p c) order → HasOutcome p SequentialMachine c o → IsRunAlong p SequentialMachine c order (labels_along p SequentialMachine c.given (λ t. 0) order) o
runs_directly_along p c o order is ok linear out =
    let is' : IsCandidate p (StoreBufferMachine no_gaps) c = record { whole = is.whole; values = is.values; sources = is.sources; ranks = is.ranks; initial = is.initial } in
    let loc = acyclic_narrower (Edge p (StoreBufferMachine no_gaps) c union.Location) (S p c) (of_location p c) ok in
    let linear' : IsLinear (at p no_gaps c is' loc) (G p no_gaps c is' loc) order = record {
      holds = linear.holds;
      known = linear.known;
      no_initial = linear.no_initial;
      distinct = linear.distinct;
      ordered = ordered_narrower (G p no_gaps c is' loc) (S p c) (λ d e r. (r.0, r.1, r.2, r.3, elim r.4 [ inl a ↦ inl a.0 | inr a ↦ elim a [ inl b ↦ inr (inl b.0) | inr b ↦ inr (inr b) ] ])) order linear.ordered;
    } in
    with_outcome p SequentialMachine no_gaps c o is' loc (record { registers = out.registers; long = out.long; memory = out.memory }) order (labels_along p SequentialMachine c.given (λ t. 0) order)
    (direct_all p c is' loc order (start p) first_origins (λ t. 0) linear.ordered (λ t. refl) (begin p no_gaps c is' loc order linear'))
