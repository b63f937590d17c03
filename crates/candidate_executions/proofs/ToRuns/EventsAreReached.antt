-- A run of the store buffer machine comes to the next event of the order.
use Rattle.candidate_executions.proofs.Vocabulary.{◌≡◌, ℕ, suc, zero, ◌+◌, ◌-◌, ◌<◌, ◌≤◌, true, List, [], ◌∷◌, ◌++◌, Some, None, IsSome, option_and_then, slice_get, drop, refl, sym, ap, ◌∙◌, subst, inl, inr, arith, cases_lt, cases_eq, same_Some, Listing}
use Rattle.candidate_executions.proofs.Vocabulary.{loaded, Local, Action, Stop, Go, Wait, Read, Write, Swap, action, Gaps, Machine, put, StoreBufferMachine, State, newest, found, when_empty, flushed, step, run, Label, Exec, Flush, Pending, Access, Event, At}
use Rattle.candidate_executions.proofs.Vocabulary.{Candidate, IsCandidate, EndsWith, Trace, trace, traced, stopped, with_access, entered, KeepsOrder, Edge, IsAcyclic, Origins, Mark, Takes, Arrives, found_write, with_made, with_waiting, with_memory}
use Rattle.candidate_executions.proofs.Vocabulary.{buffered_origins, buffered_marks, flushed_origins, flushed_marks, origins_after, marks_at, marks, Steps, made_at, steps, steps_by, counted, execs, flush_of}
use Rattle.candidate_executions.specs.declared.event.Kind.TheVariants as union
use Rattle.candidate_executions.proofs.{Orders.Lists.put_same, Orders.Lists.put_other, Orders.Lists.put_three, FromRuns.MachineSteps.exec_ok}
use Rattle.candidate_executions.proofs.Orders.Dropped.{drop_none, drop_head, get_drop}
use Rattle.candidate_executions.proofs.Sections.SectionsRise.{least, above, from_section}
use Rattle.candidate_executions.proofs.Candidates.WrittenValues.{stored_as, store_of, some_written}
use Rattle.candidate_executions.proofs.ToRuns.StepsCounted.{later, tail_counts}
use Rattle.candidate_executions.proofs.ToRuns.Standing.{at, acc, store, Has, steps_from}
use Rattle.candidate_executions.proofs.FromRuns.MarksAlong.{marks_step, taken, arrived, shown_along, shown_first}
use Rattle.candidate_executions.proofs.ToRuns.ReadsTheRightValue.{not_kept, clear, no_waits, right_write, right_value}
use Rattle.candidate_executions.proofs.ToRuns.StandingOn.{mode, final, left, Stand, Share, quiet_stands, write_stands, other_stands, read_stands, shared_next, has_still, has_after, flush_stands}

module _ (p : Listing) (gaps : Gaps) (c : Candidate) (is : IsCandidate p (StoreBufferMachine gaps) c) (loc : IsAcyclic (Edge p (StoreBufferMachine gaps) c union.Location)) where
  -- what a run has to come to
  abbrev pub Final : State → Type 0
  Final last = ((t : ℕ) → (last.locals t ≡ final p gaps c is loc t) × (last.buffers t ≡ [])) × ((l : ℕ) → EndsWith p (mode p gaps c is loc) c l (last.memory l))

  abbrev pub shown : List Event → List Mark
  shown rest = shown_along (at p gaps c is loc) c rest

  abbrev pub Goal : Machine → State → Origins → List Event → List Label → Type 0
  Goal machine s o rest labels = (last : State) × (run p machine s labels ≡ Some last) × Final last × (marks p machine s o labels ≡ shown rest)

  pub first_step : (machine : Machine) (l : Label) (labels : List Label) (s s' : State) (o o' : Origins) (rest rest' : List Event) (ms : List Mark) → step p machine s l ≡ Some s' →
      origins_after p machine s o l ≡ o' → marks_at p machine s o l ≡ ms → ms ++ shown rest' ≡ shown rest → Goal machine s' o' rest' labels → Goal machine s o rest (l ∷ labels)
  first_step machine l labels s s' o o' rest rest' ms e f h k g = (
    g.0,
    ap (option_and_then (λ z. run p machine z labels)) e ∙ g.1,
    g.2,
    marks_step p machine l labels s s' o o' ms e f h ∙ (ap (λ x. ms ++ x) g.3 ∙ k),
  )

  -- each thread has executed so many instructions, and the rest of the events are to come
  pub record Sim (s : State) (o : Origins) (done : ℕ → ℕ) (rest : List Event) : Type 0 where
    pub threads : (t : ℕ) → (k : ℕ) × Stand p gaps c is loc t (s.locals t) (s.buffers t) (o.waiting t) (o.made t) rest k (done t)
    pub shared : Share p gaps c is loc s.memory o.memory rest

  pub tail_plays : (a : Access) (T : Trace) (t d : ℕ) → with_access a T ≡ left p gaps c is loc t d → (slice_get (acc p gaps c is loc t) d ≡ Some a) × (T ≡ left p gaps c is loc t (suc d))
  tail_plays a T t d e =
      let (x, y) = drop_head d (acc p gaps c is loc t) T.accesses a (ap (λ (z : Trace). z.accesses) e) in
      (x, λ i. record { accesses = y i; last = (ap (λ (z : Trace). z.last) e) i; unused = (ap (λ (z : Trace). z.unused) e) i })

  -- the turn of an event, in a run of either machine of which this is kept
  module _ (machine : Machine) (Kept : (ℕ → List Pending) → Type 0) (t i : ℕ) (rest : List Event) (y : Access) (here : at p gaps c is loc (At t i) ≡ Some y) (done : ℕ → ℕ) (n : ℕ)
      (made : slice_get (steps_by p c.given t).accesses i ≡ Some n) (labels : List Label)
      (ih : (s : State) (o : Origins) → Kept s.buffers → Sim s o (put done t (done t + (n - done t))) rest → Goal machine s o rest labels)
      (k e : ℕ) (s : State) (o : Origins) (kept : Kept s.buffers)
      (others : (u : ℕ) → (u ≡ t → ⊥) → (k : ℕ) × Stand p gaps c is loc u (s.locals u) (s.buffers u) (o.waiting u) (o.made u) (At t i ∷ rest) k (done u))
      (mine : Stand p gaps c is loc t (s.locals t) (s.buffers t) (o.waiting t) (o.made t) (At t i ∷ rest) (suc k) e) (shared : Share p gaps c is loc s.memory o.memory (At t i ∷ rest))
      (ge : mine.done ≤ i) (low : done t ≤ e) (high : e ≤ done t + (n - done t)) where
    -- the event's instruction is still to come
    pub to_come : e < n
    to_come = later (action p.threads t) (suc k) e (s.locals t) mine.given (i - mine.done) n
        (ap (λ (z : Steps). slice_get z.accesses (i - mine.done)) mine.counts ∙ (get_drop mine.done i (steps_by p c.given t).accesses ge ∙ made))

    pub exec_first : (ls : List Label) (s' : State) (o' : Origins) (rest' : List Event) (ms : List Mark) → step p machine s (Exec t) ≡ Some s' → origins_after p machine s o (Exec t) ≡ o' →
        marks_at p machine s o (Exec t) ≡ ms → ms ++ shown rest' ≡ shown (At t i ∷ rest) → Goal machine s' o' rest' (execs t (n - suc e) ++ ls) → Goal machine s o (At t i ∷ rest) (execs t (n - e) ++ ls)
    exec_first ls s' o' rest' ms st f h m g = let lt = to_come in let q : suc (n - suc e) ≡ n - e = omega arith in
        subst (λ x. Goal machine s o (At t i ∷ rest) (execs t x ++ ls)) q (first_step machine (Exec t) (execs t (n - suc e) ++ ls) s s' o o' (At t i ∷ rest) rest' ms st f h m g)

    pub none_left : (given : List ℕ) (labels : List Label) → stopped (s.locals t) given ≡ left p gaps c is loc t mine.done → Goal machine s o (At t i ∷ rest) labels
    none_left given labels e = absurd (drop_none mine.done i (acc p gaps c is loc t) y (sym (ap (λ (z : Trace). z.accesses) e)) here ge)

    pub is_y : (a : Access) (T : Trace) → with_access a T ≡ left p gaps c is loc t mine.done → mine.done ≡ i → a ≡ y
    is_y a T h q = same_Some a y (sym (tail_plays a T t mine.done h).0 ∙ (ap (slice_get (acc p gaps c is loc t)) q ∙ here))

    -- memory where the event writes none
    pub has_read : y.written ≡ None → (l : ℕ) → Has p gaps c is loc rest l (s.memory l) (o.memory l)
    has_read none l = has_still p gaps c is loc (At t i) rest l (s.memory l) (o.memory l) (shared.has l)
        (λ v b. let z : b.0 ≡ y = same_Some b.0 y (sym b.1 ∙ here) in let k : None ≡ Some v = sym none ∙ (sym (ap (λ (z : Access). z.written) z) ∙ b.3) in cc)

    -- and where it writes
    pub has_written : (l w k : ℕ) → y.location ≡ l → y.written ≡ Some w → Has p gaps c is loc rest k (put s.memory l w k) (put o.memory l (At t i) k)
    has_written l w k q writes = has_after p gaps c is loc (At t i) rest s.memory o.memory l w shared (y, here, q, writes) k

    -- the event's access is made now, and leaves the rest
    pub meets : (x : Access) (next : Local) (m : ℕ) (given : List ℕ) (memory : ℕ → ℕ) (origins : ℕ → Event) → mine.section ≤ m → mine.done ≡ i →
        with_access x (trace (action p.threads t) (gaps t) k m next given) ≡ left p gaps c is loc t mine.done →
        made_at (suc e) (steps (action p.threads t) k (suc e) next given) ≡ steps_from p gaps c is loc t mine.done →
        step p machine s (Exec t) ≡ Some (record s { locals = put s.locals t next; memory = memory }) →
        origins_after p machine s o (Exec t) ≡ record o { made = put o.made t (suc (o.made t)); memory = origins } →
        marks_at p machine s o (Exec t) ≡ taken x.read (At t i) (c.source (At t i)) ++ arrived x.written (At t i) → ((l : ℕ) → Has p gaps c is loc rest l (memory l) (origins l)) →
        Goal machine s o (At t i ∷ rest) (execs t (n - e) ++ labels)
    meets x next m given memory origins above now h f st og mk has =
        let (a, g) = tail_plays x (trace (action p.threads t) (gaps t) k m next given) t mine.done h in
        let (b, d) = tail_counts (suc e) mine.done (steps (action p.threads t) k (suc e) next given) (steps_by p c.given t) f in
        let same : x ≡ y = is_y x (trace (action p.threads t) (gaps t) k m next given) h now in
        let s' : State = record s { locals = put s.locals t next; memory = memory } in
        let o' : Origins = record o { made = put o.made t (suc (o.made t)); memory = origins } in
        let turn : suc e ≡ n = same_Some (suc e) n (sym b ∙ (ap (slice_get (steps_by p c.given t).accesses) now ∙ made)) in
        let none : 0 ≡ n - suc e = omega arith in
        let count : suc e ≡ done t + (n - done t) = omega arith in
        exec_first labels s' o' rest (taken x.read (At t i) (c.source (At t i)) ++ arrived x.written (At t i)) st og mk
        (shown_first (at p gaps c is loc) c (At t i) rest y x.read x.written here (sym (ap (λ (z : Access). z.read) same)) (sym (ap (λ (z : Access). z.written) same)))
        (subst (λ z. Goal machine s' o' rest (execs t z ++ labels)) none
        (ih s' o' kept (record {
          threads = put_three (λ u local count d. (k : ℕ) × Stand p gaps c is loc u local (s.buffers u) (o.waiting u) count rest k d) s.locals o.made done t next (suc (o.made t)) (done t + (n - done t)) (
            k,
            subst (λ z. Stand p gaps c is loc t next (s.buffers t) (o.waiting t) (suc (o.made t)) rest k z) count
                (read_stands p gaps c is loc t i (s.locals t) (s.buffers t) (o.waiting t) (o.made t) rest (suc k) e mine next k m given above now shared.distinct.0 g d b),
          )
              (λ u n'. let (k, x) = others u n' in (k, other_stands p gaps c is loc t i u n' (s.locals u) (s.buffers u) (o.waiting u) (o.made u) rest k (done u) x));
          shared = shared_next p gaps c is loc (At t i) rest s.memory memory o.memory origins shared has;
        })))

  module _ (t i : ℕ) (rest : List Event) (y : Access) (here : at p gaps c is loc (At t i) ≡ Some y) (done : ℕ → ℕ) (n : ℕ)
      (made : slice_get (steps_by p c.given t).accesses i ≡ Some n) (labels : List Label)
      (ih : (s : State) (o : Origins) → Sim s o (put done t (done t + (n - done t))) rest → Goal (mode p gaps c is loc) s o rest labels) where
    abbrev all : List Event
    all = At t i ∷ rest

    abbrev then : List Label
    then = flush_of y.read t ++ labels

    -- how many instructions the thread has executed after the event
    abbrev after_it : ℕ
    after_it = done t + (n - done t)

    abbrev Others : State → Origins → Type 0
    Others s o = (u : ℕ) → (u ≡ t → ⊥) → (k : ℕ) × Stand p gaps c is loc u (s.locals u) (s.buffers u) (o.waiting u) (o.made u) all k (done u)

    -- how thread t stands
    abbrev Here : State → Origins → ℕ → ℕ → Type 0
    Here s o k e = Stand p gaps c is loc t (s.locals t) (s.buffers t) (o.waiting t) (o.made t) all k e

    abbrev Shares : State → Origins → Type 0
    Shares s o = Share p gaps c is loc s.memory o.memory all

    flush_case : (s : State) (o : Origins) (k e : ℕ) → Others s o → (mine : Here s o k e) → Shares s o → i < mine.done →
        done t ≤ e → e ≤ after_it → Goal (mode p gaps c is loc) s o all then
    flush_case s o k e others mine shared lt low high =
        let f = flush_stands p gaps c is loc t i rest y here (s.locals t) (s.buffers t) (o.waiting t) (o.made t) s.memory o.memory k e mine shared lt in
        let w = store p gaps c is loc t i in
        let past = mine.past i n lt made in
        let now : e ≡ after_it = omega arith in
        let o' : Origins = with_memory (with_waiting o t f.others_wait) w.location (At t i) in
        let plain = mine.plain i y here lt (inl refl) in
        subst (λ r. Goal (mode p gaps c is loc) s o all (flush_of r t ++ labels)) (sym plain.0)
        (first_step (mode p gaps c is loc) (Flush t) labels s (record s { buffers = put s.buffers t f.others; memory = put s.memory w.location w.value }) o o' all rest (Arrives (At t i) ∷ [])
        (ap (flushed s t) f.buffer_is) (ap (flushed_origins o t) f.waits_are) (ap flushed_marks f.waits_are)
        (shown_first (at p gaps c is loc) c (At t i) rest y None (Some (stored_as y.written)) here plain.0 (some_written y.written plain.1))
        (ih (record s { buffers = put s.buffers t f.others; memory = put s.memory w.location w.value }) o' (record {
          threads = put_three (λ u buffer waits d. (k : ℕ) × Stand p gaps c is loc u (s.locals u) buffer waits (o.made u) rest k d) s.buffers o.waiting done t f.others f.others_wait after_it
              (k, subst (λ x. Stand p gaps c is loc t (s.locals t) f.others f.others_wait (o.made t) rest k x) now f.stands)
              (λ u n. let (k, x) = others u n in (k, other_stands p gaps c is loc t i u n (s.locals u) (s.buffers u) (o.waiting u) (o.made u) rest k (done u) x));
          shared = shared_next p gaps c is loc (At t i) rest s.memory (put s.memory w.location w.value) o.memory (put o.memory w.location (At t i)) shared
              (has_after p gaps c is loc (At t i) rest s.memory o.memory w.location w.value shared (
                y,
                here,
                ap (λ (z : Pending). z.location) (sym (ap store_of here)),
                some_written y.written plain.1 ∙ ap Some (ap (λ (z : Pending). z.value) (sym (ap store_of here))),
              ));
        })))

    module _ (k e : ℕ) (s : State) (o : Origins) (others : Others s o) (mine : Here s o (suc k) e) (shared : Shares s o) (ge : mine.done ≤ i)
        (low : done t ≤ e) (high : e ≤ after_it)
        (again : (s : State) (o : Origins) → Others s o → Here s o k (suc e) → Shares s o → suc e ≤ after_it → Goal (mode p gaps c is loc) s o all (execs t (n - suc e) ++ then)) where
      abbrev m : ℕ
      m = entered (gaps t (s.locals t).place) mine.section

      y_at : slice_get (drop mine.done (acc p gaps c is loc t)) (i - mine.done) ≡ Some y
      y_at = get_drop mine.done i (acc p gaps c is loc t) ge ∙ here

      m_le : m ≤ y.section
      m_le = from_section (action p.threads t) (gaps t) (suc k) mine.section (s.locals t) mine.given (i - mine.done) y
          (ap (λ (z : Trace). slice_get z.accesses (i - mine.done)) mine.plays ∙ y_at)

      once_more : (s' : State) (o' : Origins) → step p (mode p gaps c is loc) s (Exec t) ≡ Some s' → origins_after p (mode p gaps c is loc) s o (Exec t) ≡ o' →
          marks_at p (mode p gaps c is loc) s o (Exec t) ≡ [] → Others s' o' → Here s' o' k (suc e) → Shares s' o' → Goal (mode p gaps c is loc) s o all (execs t (n - e) ++ then)
      once_more s' o' st f m a x h = let lt = to_come (mode p gaps c is loc) (λ b. Unit {0}) t i rest y here done n made labels (λ s o u. ih s o) k e s o tt others mine shared ge low high in
          exec_first (mode p gaps c is loc) (λ b. Unit {0}) t i rest y here done n made labels (λ s o u. ih s o) k e s o tt others mine shared ge low high then s' o' all [] st f m refl (again s' o' a x h (omega arith))

      clear_by : ((x : Access) → x.section ≤ mine.section → KeepsOrder x y) → s.buffers t ≡ []
      clear_by = clear p gaps c is loc t i rest y here (s.locals t) (s.buffers t) (o.waiting t) (o.made t) s.memory o.memory (suc k) e mine shared ge

      gap_free : gaps t (s.locals t).place ≡ true → s.buffers t ≡ []
      gap_free g = let z : m ≡ suc mine.section = ap (λ b. entered b mine.section) g in let le = m_le in
          clear_by (λ x h. inr (inr (λ q. omega arith)))

      m_above : mine.section ≤ m
      m_above = above (gaps t (s.locals t).place) mine.section

      others_at : (next : Local) → (u : ℕ) → (u ≡ t → ⊥) → (k : ℕ) × Stand p gaps c is loc u (put s.locals t next u) (s.buffers u) (o.waiting u) (o.made u) all k (done u)
      others_at next u n = let (k, x) = others u n in (k, rw (put_other s.locals t next u n) x)

      -- an earlier access that reads would have to come first
      is_now : (a : Access) → slice_get (acc p gaps c is loc t) mine.done ≡ Some a → IsSome a.read → mine.done ≡ i
      is_now a b r = elim (cases_eq mine.done i) [
        | inl q ↦ q
        | inr n ↦ absurd (not_kept p gaps c is loc t i rest y here (s.locals t) (s.buffers t) (o.waiting t) (o.made t) s.memory o.memory (suc k) e mine shared mine.done a b
            (mine.behind mine.done a b (omega arith)) (omega arith) (inl r))
      ]

      -- what a read finds, and by which write
      value_of : (l v : ℕ) → y.location ≡ l → y.read ≡ Some v → mine.done ≡ i → found (newest l (s.buffers t)) (s.memory l) ≡ v
      value_of l v there reads now = subst (λ z. found (newest z (s.buffers t)) (s.memory z) ≡ v) there
          (right_value p gaps c is loc t i rest y here (s.locals t) (s.buffers t) (o.waiting t) (o.made t) s.memory o.memory (suc k) e mine shared v reads now)

      write_of : (l v : ℕ) → y.location ≡ l → y.read ≡ Some v → mine.done ≡ i → found_write l (o.waiting t) (o.memory l) ≡ c.source (At t i)
      write_of l v there reads now = subst (λ z. found_write z (o.waiting t) (o.memory z) ≡ c.source (At t i)) there
          (right_write p gaps c is loc t i rest y here (s.locals t) (s.buffers t) (o.waiting t) (o.made t) s.memory o.memory (suc k) e mine shared v reads now)

      on_action : (a : Action) → action p.threads t (s.locals t) ≡ a → (given : List ℕ) →
          traced (trace (action p.threads t) (gaps t) k) m (s.locals t) a given ≡ left p gaps c is loc t mine.done →
          counted (steps (action p.threads t) k) e a given ≡ steps_from p gaps c is loc t mine.done → Goal (mode p gaps c is loc) s o all (execs t (n - e) ++ then)
      on_action Stop q given h f = none_left (mode p gaps c is loc) (λ b. Unit {0}) t i rest y here done n made labels (λ s o u. ih s o) k e s o tt others mine shared ge low high given _ h
      on_action (Go next) q given h f =
          once_more (record s { locals = put s.locals t next }) o (exec_ok p gaps s _ t gap_free (rw q refl)) (ap (buffered_origins o t) q) (ap (buffered_marks s o t) q) (others_at next)
          (rw put_same (quiet_stands p gaps c is loc t (s.locals t) (s.buffers t) (o.waiting t) (o.made t) all (suc k) e mine next k m given m_above h f)) shared
      on_action (Wait next) q given h f =
          let le : suc m ≤ y.section = least (gaps t next.place) (suc m) y.section (from_section (action p.threads t) (gaps t) k (suc m) next given (i - mine.done) y
          (ap (λ (z : Trace). slice_get z.accesses (i - mine.done)) h ∙ y_at)) in
          let up = m_above in
          let empty : s.buffers t ≡ [] = clear_by (λ x h. inr (inr (λ q. omega arith))) in
          once_more (record s { locals = put s.locals t next }) o (exec_ok p gaps s _ t gap_free (rw q (ap (λ b. when_empty b (record s { locals = put s.locals t next })) empty)))
          (ap (buffered_origins o t) q) (ap (buffered_marks s o t) q) (others_at next)
          (rw put_same (quiet_stands p gaps c is loc t (s.locals t) (s.buffers t) (o.waiting t) (o.made t) all (suc k) e mine next k (suc m) given (omega arith) h f)) shared
      on_action (Write l v next) q given h f =
          let w : Pending = record { location = l; value = v } in
          let (a, g) = tail_plays (record { section = m; location = l; read = None; written = Some v }) (trace (action p.threads t) (gaps t) k m next given) t mine.done h in
          let (b, d) = tail_counts (suc e) mine.done (steps (action p.threads t) k (suc e) next given) (steps_by p c.given t) f in
          let ws : List (ℕ × Event) = o.waiting t ++ (l, At t (o.made t)) ∷ [] in
          once_more (record s { locals = put s.locals t next; buffers = put s.buffers t (s.buffers t ++ w ∷ []) }) (with_made (with_waiting o t ws) t) (exec_ok p gaps s _ t gap_free (rw q refl))
          (ap (buffered_origins o t) q) (ap (buffered_marks s o t) q)
          (λ u n. let (k, x) = others u n in (
            k,
            rw (put_other s.locals t next u n, put_other s.buffers t (s.buffers t ++ w ∷ []) u n, put_other o.waiting t ws u n, put_other o.made t (suc (o.made t)) u n) x,
          ))
          (rw (put_same s.locals t next, put_same s.buffers t (s.buffers t ++ w ∷ []), put_same o.waiting t ws, put_same o.made t (suc (o.made t)))
          (write_stands p gaps c is loc t (s.locals t) (s.buffers t) (o.waiting t) (o.made t) all (suc k) e mine next k m l v given m_above a g d b)) shared
      on_action (Read l to next) q (v ∷ given) h f =
          let x : Access = record { section = m; location = l; read = Some v; written = None } in
          let now : mine.done ≡ i = is_now x (tail_plays x (trace (action p.threads t) (gaps t) k m (loaded to v next) given) t mine.done h).0 refl in
          let same : x ≡ y = is_y (mode p gaps c is loc) (λ b. Unit {0}) t i rest y here done n made labels (λ s o u. ih s o) k e s o tt others mine shared ge low high x (trace (action p.threads t) (gaps t) k m (loaded to v next) given) h now in
          let there : y.location ≡ l = sym (ap (λ (z : Access). z.location) same) in
          let reads : y.read ≡ Some v = sym (ap (λ (z : Access). z.read) same) in
          let value : found (newest l (s.buffers t)) (s.memory l) ≡ v = value_of l v there reads now in
          let write : found_write l (o.waiting t) (o.memory l) ≡ c.source (At t i) = write_of l v there reads now in
          let it : o.made t ≡ i = mine.count_is ∙ now in
          subst (λ r. Goal (mode p gaps c is loc) s o all (execs t (n - e) ++ (flush_of r t ++ labels))) (sym reads)
          (meets (mode p gaps c is loc) (λ b. Unit {0}) t i rest y here done n made labels (λ s o u. ih s o) k e s o tt others mine shared ge low high x (loaded to v next) m given s.memory o.memory m_above now h f
          (exec_ok p gaps s _ t gap_free (rw q (ap (λ v. Some (record s { locals = put s.locals t (loaded to v next) })) value)))
          (ap (buffered_origins o t) q) (ap (buffered_marks s o t) q ∙ (λ j. Takes (At t (it j)) (value j) (write j) ∷ []))
          (has_read (mode p gaps c is loc) (λ b. Unit {0}) t i rest y here done n made labels (λ s o u. ih s o) k e s o tt others mine shared ge low high (sym (ap (λ (z : Access). z.written) same))))
      on_action (Swap l w to next) q (v ∷ given) h f =
          let x : Access = record { section = m; location = l; read = Some v; written = Some w } in
          let now : mine.done ≡ i = is_now x (tail_plays x (trace (action p.threads t) (gaps t) k (suc m) (loaded to v next) given) t mine.done h).0 refl in
          let same : x ≡ y = is_y (mode p gaps c is loc) (λ b. Unit {0}) t i rest y here done n made labels (λ s o u. ih s o) k e s o tt others mine shared ge low high x (trace (action p.threads t) (gaps t) k (suc m) (loaded to v next) given) h now in
          let there : y.location ≡ l = sym (ap (λ (z : Access). z.location) same) in
          let reads : y.read ≡ Some v = sym (ap (λ (z : Access). z.read) same) in
          let writes : y.written ≡ Some w = sym (ap (λ (z : Access). z.written) same) in
          let empty : s.buffers t ≡ [] = clear_by (λ x h. inr (inl (rw writes refl))) in
          let value : s.memory l ≡ v = sym (ap (λ b. found (newest l b) (s.memory l)) empty) ∙ value_of l v there reads now in
          let none : o.waiting t ≡ [] = no_waits p gaps c is loc t i rest y here (s.locals t) (s.buffers t) (o.waiting t) (o.made t) s.memory o.memory (suc k) e mine shared empty in
          let write : o.memory l ≡ c.source (At t i) = sym (ap (λ b. found_write l b (o.memory l)) none) ∙ write_of l v there reads now in
          let it : o.made t ≡ i = mine.count_is ∙ now in
          subst (λ r. Goal (mode p gaps c is loc) s o all (execs t (n - e) ++ (flush_of r t ++ labels))) (sym reads)
          (meets (mode p gaps c is loc) (λ b. Unit {0}) t i rest y here done n made labels (λ s o u. ih s o) k e s o tt others mine shared ge low high x (loaded to v next) (suc m) given (put s.memory l w) (put o.memory l (At t i)) (let z = m_above in omega arith) now h f
          (exec_ok p gaps s _ t gap_free (rw q (ap (λ b. when_empty b (record s { locals = put s.locals t (loaded to (s.memory l) next); memory = put s.memory l w })) empty ∙
          ap (λ v. Some (record s { locals = put s.locals t (loaded to v next); memory = put s.memory l w })) value)))
          (ap (buffered_origins o t) q ∙ (λ j. with_made (with_memory o l (At t (it j))) t)) (ap (buffered_marks s o t) q ∙ (λ j. Takes (At t (it j)) (value j) (write j) ∷ Arrives (At t (it j)) ∷ []))
          (λ r. has_written (mode p gaps c is loc) (λ b. Unit {0}) t i rest y here done n made labels (λ s o u. ih s o) k e s o tt others mine shared ge low high l w r there writes))
      on_action a q [] h f = none_left (mode p gaps c is loc) (λ b. Unit {0}) t i rest y here done n made labels (λ s o u. ih s o) k e s o tt others mine shared ge low high [] _ h

    -- the event has been executed already, and waits in the buffer
    executed : (s : State) (o : Origins) (k e : ℕ) → Others s o → (mine : Here s o k e) → Shares s o → i < mine.done →
        done t ≤ e → e ≤ after_it → Goal (mode p gaps c is loc) s o all (execs t (n - e) ++ then)
    executed s o k e others mine shared lt low high =
        let past = mine.past i n lt made in
        let none : 0 ≡ n - e = omega arith in
        subst (λ z. Goal (mode p gaps c is loc) s o all (execs t z ++ then)) none (flush_case s o k e others mine shared lt low high)

    pub reach : (k e : ℕ) (s : State) (o : Origins) → Others s o → Here s o k e → Shares s o → done t ≤ e → e ≤ after_it → Goal (mode p gaps c is loc) s o all (execs t (n - e) ++ then)
    reach zero e s o others mine shared low high = elim (cases_lt i mine.done) [
      | inl lt ↦ executed s o zero e others mine shared lt low high
      | inr ge ↦ absurd (drop_none mine.done i (acc p gaps c is loc t) y (sym (ap (λ (z : Trace). z.accesses) mine.plays)) here ge)
    ]
    reach (suc k) e s o others mine shared low high = elim (cases_lt i mine.done) [
      | inl lt ↦ executed s o (suc k) e others mine shared lt low high
      | inr ge ↦ on_action k e s o others mine shared ge low high (λ s o a x h z. reach k (suc e) s o a x h (omega arith) z) (action p.threads t (s.locals t)) refl mine.given mine.plays mine.counts
    ]
