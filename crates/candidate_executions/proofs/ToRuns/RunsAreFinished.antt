-- After the last event each thread comes to its end, and so the run follows the whole order.
use Rattle.candidate_executions.proofs.Vocabulary.{◌≡◌, ℕ, suc, zero, ◌+◌, ◌-◌, ◌<◌, ◌≤◌, ◌⊎◌, List, [], ◌∷◌, ◌++◌, Some, slice_get, slice_index, map, drop, refl, sym, ap, ◌∙◌, subst, inl, inr, arith, length, cases_eq, Access, Listing, act, Local, Action}
use Rattle.candidate_executions.proofs.Vocabulary.{Stop, Go, Wait, Read, Write, Swap, action, start_of, code_of, Gaps, Machine, put, StoreBufferMachine, State, when_empty, step, Label, Exec, Event, Initial, At, Candidate, IsCandidate, EndsWith, Trace, trace}
use Rattle.candidate_executions.proofs.Vocabulary.{traced, entered, Edge, IsAcyclic, Origins, buffered_origins, buffered_marks, origins_after, marks_at, slice_get_within, get_or_from_slice_get, Steps, steps, steps_by, counted, execs, flushes, to_ends}
use Rattle.candidate_executions.proofs.Vocabulary.{labels_along}
use Rattle.tso_program.proofs.Found.{no_code}
use Rattle.candidate_executions.specs.declared.event.Kind.TheVariants as union
use Rattle.candidate_executions.proofs.{Orders.Lists.put_same, Orders.Lists.put_other, Orders.Lists.get_some, FromRuns.MachineSteps.exec_ok}
use Rattle.candidate_executions.proofs.{ToRuns.StepsCounted.all_above, ToRuns.StepsCounted.same_length, ToRuns.Standing.at, ToRuns.Standing.acc, ToRuns.Standing.store, ToRuns.Standing.steps_from}
use Rattle.candidate_executions.proofs.ToRuns.StandingOn.{mode, final, Stand}
use Rattle.candidate_executions.proofs.{ToRuns.EventsAreReached.Goal, ToRuns.EventsAreReached.first_step, ToRuns.EventsAreReached.Sim, ToRuns.EventsAreReached.reach}

module _ (p : Listing) (gaps : Gaps) (c : Candidate) (is : IsCandidate p (StoreBufferMachine gaps) c) (loc : IsAcyclic (Edge p (StoreBufferMachine gaps) c union.Location)) where
  -- only instructions that touch no memory are left
  abbrev pub nothing : ℕ → Trace
  nothing t = record { accesses = []; last = final p gaps c is loc t; unused = [] }

  -- and so many are executed in all
  abbrev pub none_to_come : ℕ → Steps
  none_to_come t = record { accesses = []; all = (steps_by p c.given t).all }

  abbrev pub Lefts : State → ℕ → ℕ → Type 0
  Lefts s t e = (k n : ℕ) × (g : List ℕ) × (trace (action p.threads t) (gaps t) k n (s.locals t) g ≡ nothing t) ×
      (steps (action p.threads t) k e (s.locals t) g ≡ none_to_come t)

  pub record Idle (s : State) : Type 0 where
    pub empty : (t : ℕ) → s.buffers t ≡ []
    pub ends : (l : ℕ) → EndsWith p (mode p gaps c is loc) c l (s.memory l)

  pub moved : (s : State) (next : Local) (t : ℕ) → Idle s → Idle (record s { locals = put s.locals t next })
  moved s next t i = record { empty = i.empty; ends = i.ends }

  -- an instruction that touches the thread alone is possible with an empty buffer, and shows nothing
  abbrev pub IsQuiet : Machine → Type 0
  IsQuiet machine = (s : State) (o : Origins) (t : ℕ) (next : Local) → s.buffers t ≡ [] → (action p.threads t (s.locals t) ≡ Go next) ⊎ (action p.threads t (s.locals t) ≡ Wait next) →
      (step p machine s (Exec t) ≡ Some (record s { locals = put s.locals t next })) × (origins_after p machine s o (Exec t) ≡ o) × (marks_at p machine s o (Exec t) ≡ [])

  module _ (machine : Machine) (quiet : IsQuiet machine) (o : Origins) (done : ℕ → ℕ) where
    abbrev ends_from : ℕ → List Label
    ends_from m = to_ends (steps_by p c.given) done m

    module _ (m : ℕ) (ih : (s : State) → Idle s → ((t : ℕ) → t < m → Lefts s t (done t)) → ((t : ℕ) → m ≤ t → s.locals t ≡ final p gaps c is loc t) → Goal p gaps c is loc machine s o [] (ends_from m)) where
      at_end : (s : State) (e : ℕ) → Idle s → ((t : ℕ) → t < m → Lefts s t (done t)) → ((t : ℕ) → suc m ≤ t → s.locals t ≡ final p gaps c is loc t) →
          s.locals m ≡ final p gaps c is loc m → e ≡ (steps_by p c.given m).all → Goal p gaps c is loc machine s o [] (execs m ((steps_by p c.given m).all - e) ++ ends_from m)
      at_end s e idle low high f q = let none : 0 ≡ (steps_by p c.given m).all - e = omega arith in
          subst (λ z. Goal p gaps c is loc machine s o [] (execs m z ++ ends_from m)) none
          (ih s idle low (λ t h. elim (cases_eq m t) [ inl q ↦ subst (λ z. s.locals z ≡ final p gaps c is loc z) q f | inr n ↦ high t (omega arith) ]))

      -- thread m comes to its end in k steps
      abbrev One : ℕ → Type 0
      One k = (n e : ℕ) (s : State) (g : List ℕ) → Idle s → ((t : ℕ) → t < m → Lefts s t (done t)) → ((t : ℕ) → suc m ≤ t → s.locals t ≡ final p gaps c is loc t) →
          trace (action p.threads m) (gaps m) k n (s.locals m) g ≡ nothing m → steps (action p.threads m) k e (s.locals m) g ≡ none_to_come m →
          Goal p gaps c is loc machine s o [] (execs m ((steps_by p c.given m).all - e) ++ ends_from m)

      finish_one : (k : ℕ) → One k
      finish_one zero n e s g idle low high f h = at_end s e idle low high (ap (λ (z : Trace). z.last) f) (ap (λ (z : Steps). z.all) h)
      finish_one (suc k) n e s g idle low high f h = go (finish_one k) (action p.threads m (s.locals m)) refl g f h
        where
          again : One k → (n : ℕ) (next : Local) (g : List ℕ) → (action p.threads m (s.locals m) ≡ Go next) ⊎ (action p.threads m (s.locals m) ≡ Wait next) →
              trace (action p.threads m) (gaps m) k n next g ≡ nothing m → steps (action p.threads m) k (suc e) next g ≡ none_to_come m →
              Goal p gaps c is loc machine s o [] (execs m ((steps_by p c.given m).all - e) ++ ends_from m)
          again one n next g a f h =
              let more = all_above (action p.threads m) k (suc e) next g in
              let all = ap (λ (z : Steps). z.all) h in
              let q : suc ((steps_by p c.given m).all - suc e) ≡ (steps_by p c.given m).all - e = omega arith in
              subst (λ z. Goal p gaps c is loc machine s o [] (execs m z ++ ends_from m)) q
              (first_step p gaps c is loc machine (Exec m) (execs m ((steps_by p c.given m).all - suc e) ++ ends_from m) s (record s { locals = put s.locals m next }) o o [] [] []
              (quiet s o m next (idle.empty m) a).0 (quiet s o m next (idle.empty m) a).1 (quiet s o m next (idle.empty m) a).2 refl
              (one n (suc e) (record s { locals = put s.locals m next }) g (moved s next m idle)
              (λ t h. let (k, n, g, f, i) = low t h in (k, n, g, rw (put_other s.locals m next t (λ z. omega arith)) f, rw (put_other s.locals m next t (λ z. omega arith)) i))
              (λ t h. rw (put_other s.locals m next t (λ z. omega arith)) (high t h))
              (rw (put_same s.locals m next) f) (rw (put_same s.locals m next) h)))

          go : One k → (a : Action) → action p.threads m (s.locals m) ≡ a → (g : List ℕ) →
              traced (trace (action p.threads m) (gaps m) k) (entered (gaps m (s.locals m).place) n) (s.locals m) a g ≡ nothing m →
              counted (steps (action p.threads m) k) e a g ≡ none_to_come m → Goal p gaps c is loc machine s o [] (execs m ((steps_by p c.given m).all - e) ++ ends_from m)
          go one Stop q g f h = at_end s e idle low high (ap (λ (z : Trace). z.last) f) (ap (λ (z : Steps). z.all) h)
          go one (Go next) q g f h = again one (entered (gaps m (s.locals m).place) n) next g (inl q) f h
          go one (Wait next) q g f h = again one (suc (entered (gaps m (s.locals m).place) n)) next g (inr q) f h
          go one (Write l v next) q g f h = absurd (let z = ap (λ (z : Trace). z.accesses) f in cc)
          go one (Read l to next) q (v ∷ g) f h = absurd (let z = ap (λ (z : Trace). z.accesses) f in cc)
          go one (Swap l w to next) q (v ∷ g) f h = absurd (let z = ap (λ (z : Trace). z.accesses) f in cc)
          go one _ q [] f h = at_end s e idle low high (ap (λ (z : Trace). z.last) f) (ap (λ (z : Steps). z.all) h)

    pub finish_all : (m : ℕ) (s : State) → Idle s → ((t : ℕ) → t < m → Lefts s t (done t)) → ((t : ℕ) → m ≤ t → s.locals t ≡ final p gaps c is loc t) → Goal p gaps c is loc machine s o [] (ends_from m)
    finish_all zero s idle low high = (s, refl, ((λ t. (high t (omega arith), idle.empty t)), idle.ends), refl)
    finish_all (suc m) s idle low high = let (k, n, g, e, h) = low m (omega arith) in
        finish_one m (finish_all m) k n (done m) s g idle (λ t h. low t (omega arith)) high e h

  pub all_dropped : {A : Type 0} (d : ℕ) (xs : List A) → ((i : ℕ) (y : A) → slice_get xs i ≡ Some y → d ≤ i → ⊥) → drop d xs ≡ []
  all_dropped zero [] h = refl
  all_dropped zero (x ∷ xs) h = absurd (h 0 x refl (omega arith))
  all_dropped (suc d) [] h = refl
  all_dropped (suc d) (x ∷ xs) h = all_dropped d xs (λ i y a b. h (suc i) y a (omega arith))

  -- a thread that is not there stands still
  pub still : (t k n : ℕ) (local : Local) (g : List ℕ) → length p.threads ≤ t → trace (action p.threads t) (gaps t) k n local g ≡ nothing t → local ≡ final p gaps c is loc t
  still t zero n local g h e = ap (λ (z : Trace). z.last) e
  still t (suc k) n local g h e =
      let q : action p.threads t local ≡ Stop = ap (λ x. act (slice_get x local.place) local) (no_code p.threads t h) in
      ap (λ (z : Trace). z.last) (sym (ap (λ a. traced (trace (action p.threads t) (gaps t) k) (entered (gaps t local.place) n) local a g) q) ∙ e)

  -- thread t has no access to come
  none_from : (t d k e : ℕ) (local : Local) (g : List ℕ) → steps (action p.threads t) k e local g ≡ steps_from p gaps c is loc t d → drop d (acc p gaps c is loc t) ≡ [] →
      steps (action p.threads t) k e local g ≡ none_to_come t
  none_from t d k e local g f h =
      let short : length (drop d (acc p gaps c is loc t)) ≡ 0 = ap length h in
      let same = same_length (action p.threads t) (gaps t) (length (code_of p.threads t)) 0 0 (start_of p.threads t) (c.given t) in
      f ∙ (λ i. record { accesses = (dropped d (steps_by p c.given t).accesses (acc p gaps c is loc t) same h) i; all = (steps_by p c.given t).all })
    where
      dropped : {A B : Type 0} (d : ℕ) (xs : List A) (ys : List B) → length xs ≡ length ys → drop d ys ≡ [] → drop d xs ≡ []
      dropped zero [] ys e h = refl
      dropped (suc d) [] ys e h = refl
      dropped (suc d) (x ∷ xs) (y ∷ ys) e h = dropped d xs ys (omega arith) h
      dropped d xs ys e h = absurd cc

  pub finish : (machine : Machine) → IsQuiet machine → (s : State) (o : Origins) (done : ℕ → ℕ) → Sim p gaps c is loc s o done [] → Goal p gaps c is loc machine s o [] (to_ends (steps_by p c.given) done (length p.threads))
  finish machine quiet s o done sim = finish_all machine quiet o done (length p.threads) s (record { empty = empty; ends = ends }) (λ t h. lefts t)
      (λ t h. let (k, n, g, e, i) = lefts t in still t k n (s.locals t) g h e)
    where
      empty : (t : ℕ) → s.buffers t ≡ []
      empty t = let (k, x) = sim.threads t in go x.queue refl x
        where
          go : (q : List ℕ) → (sim.threads t).1.queue ≡ q → Stand p gaps c is loc t (s.locals t) (s.buffers t) (o.waiting t) (o.made t) [] (sim.threads t).0 (done t) → s.buffers t ≡ []
          go [] e x = (sim.threads t).1.buffer_is ∙ ap (map (store p gaps c is loc t)) e
          go (j ∷ js) e x = absurd ((sim.threads t).1.queued 0 j (rw e refl)).1

      ends : (l : ℕ) → EndsWith p (mode p gaps c is loc) c l (s.memory l)
      ends l = let h = sim.shared.has l in (h.event, h.writes, (λ d w a. h.last d w a (λ z. z)))

      lefts : (t : ℕ) → Lefts s t (done t)
      lefts t = let (k, x) = sim.threads t in
          let none : drop x.done (acc p gaps c is loc t) ≡ [] = all_dropped x.done (acc p gaps c is loc t) (λ i y a b. x.behind i y a b) in (
            k,
            x.section,
            x.given,
            (x.plays ∙ (λ i. record { accesses = none i; last = final p gaps c is loc t; unused = [] })),
            none_from t x.done k (done t) (s.locals t) x.given x.counts none,
          )

  quiet_buffered : IsQuiet (mode p gaps c is loc)
  quiet_buffered s o t next empty (inl q) = (exec_ok p gaps s _ t (λ b. empty) (rw q refl), ap (buffered_origins o t) q, ap (buffered_marks s o t) q)
  quiet_buffered s o t next empty (inr q) = (
    exec_ok p gaps s _ t (λ b. empty) (rw q (ap (λ b. when_empty b (record s { locals = put s.locals t next })) empty)),
    ap (buffered_origins o t) q,
    ap (buffered_marks s o t) q,
  )

  -- an access is made by one of the thread's instructions
  pub step_of : (t i : ℕ) (y : Access) → at p gaps c is loc (At t i) ≡ Some y → (n : ℕ) × (slice_get (steps_by p c.given t).accesses i ≡ Some n) × (slice_index (steps_by p c.given t).accesses i ≡ n)
  step_of t i y here =
      let same = same_length (action p.threads t) (gaps t) (length (code_of p.threads t)) 0 0 (start_of p.threads t) (c.given t) in
      let short = slice_get_within (acc p gaps c is loc t) i y here in
      let (n, a) = get_some (steps_by p c.given t).accesses i (omega arith) in
      (n, a, get_or_from_slice_get (steps_by p c.given t).accesses i n 0 a)

  pub sim_all : (rest : List Event) (s : State) (o : Origins) (done : ℕ → ℕ) → Sim p gaps c is loc s o done rest →
      Goal p gaps c is loc (mode p gaps c is loc) s o rest (labels_along p (mode p gaps c is loc) c.given done rest)
  sim_all [] s o done sim = finish (mode p gaps c is loc) quiet_buffered s o done sim
  sim_all (Initial l ∷ rest) s o done sim = absurd (sim.shared.initial l (inl refl))
  sim_all (At t i ∷ rest) s o done sim =
      let (y, here) = sim.shared.known t i (inl refl) in
      let (n, made, is_n) = step_of t i y here in
      let (k, mine) = sim.threads t in
      let low : done t ≤ done t + (n - done t) = omega arith in
      let next : List Label = labels_along p (mode p gaps c is loc) c.given (put done t (done t + (n - done t))) rest in
      let run = reach p gaps c is loc t i rest y here done n made next (λ s o sim. sim_all rest s o (put done t (done t + (n - done t))) sim) k (done t) s o (λ u n. sim.threads u) mine sim.shared (omega arith) low in
      subst (λ z. Goal p gaps c is loc (mode p gaps c is loc) s o (At t i ∷ rest) (execs t (z - done t) ++ (flushes (mode p gaps c is loc) (at p gaps c is loc (At t i)) t ++
      labels_along p (mode p gaps c is loc) c.given (put done t (done t + (z - done t))) rest))) (sym is_n)
      (subst (λ a. Goal p gaps c is loc (mode p gaps c is loc) s o (At t i ∷ rest) (execs t (n - done t) ++ (flushes (mode p gaps c is loc) a t ++ next))) (sym here) run)
