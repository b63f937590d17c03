-- Each run leaves a good history, and its traces.
use Rattle.candidate_executions.proofs.Vocabulary.{◌≡◌, ℕ, suc, ◌<◌, Bool, true, false, List, [], ◌∷◌, ◌++◌, ◌⊎◌, ◌↔◌, Option, Some, None, get_or, map, refl, sym, ap, ◌∙◌, subst, inl, inr, length, append-nil, slice_get, zero, arith, fun_ext, cases_eq}
use Rattle.candidate_executions.proofs.Vocabulary.{cases_lt, slice_get-get_or, slice_get_within, same_Some, Listing, Local, Action, Go, Wait, Read, Write, Swap, action, loaded, Gaps, put, StoreBufferMachine, State, newest, found, when_empty, flushed, run}
use Rattle.candidate_executions.proofs.Vocabulary.{Label, Exec, Flush, Pending, Access, Event, At, Origins, Mark, Takes, Arrives, found_write, with_made, with_waiting, with_memory, buffered_origins, buffered_marks, flushed_origins, flushed_marks, marks}
use Rattle.candidate_executions.proofs.Vocabulary.{marks_at, origins_after, step, Trace, trace, with_access, entered, IsHeldValue, exec_by, flush_by}
use Rattle.candidate_executions.proofs.{FromRuns.CandidateOfHistory.moment_of, FromRuns.MarksAlong.marks_step}
use Rattle.candidate_executions.proofs.FromRuns.MarksOfHistories.{joined, Waits, Tells, IsShownAs, tells_end, tells_quiet, tells_flush, tells_entry, moment_old, same_joined, shown_load, shown_exchange, shown_store, waits_flush}
use Rattle.candidate_executions.proofs.FromRuns.Histories.{Entry, History, Holds, Good}
use Rattle.candidate_executions.proofs.{Orders.Lists.put_same, Orders.Lists.put_other, Orders.Lists.put_each, Orders.Lists.put_both, FromRuns.HistoriesGrow.with_entry, FromRuns.FlushesDue.due}
use Rattle.candidate_executions.proofs.FromRuns.RunInvariant.{Latest, none_waits, Inv, inv_section, tick}
use Rattle.candidate_executions.proofs.FromRuns.SeenByReads.{seen_memory, seen_any}
use Rattle.candidate_executions.proofs.FromRuns.ReadsKeepInvariant.{read_entry, inv_load, inv_swap}
use Rattle.candidate_executions.proofs.FromRuns.StoresKeepInvariant.{write_entry, inv_write}
use Rattle.candidate_executions.proofs.FromRuns.FlushesKeepInvariant.{head, others_wait, after_it, inv_flush}
use Rattle.candidate_executions.proofs.FromRuns.StoredValues.{Valued, Fair, fair_at, found_value, valued_local, valued_loaded, valued_memory, valued_write, valued_flush}
use Rattle.candidate_executions.proofs.FromRuns.MachineSteps.{exec_ok, enough, grown_here}

-- the values that a list of entries reads
abbrev pub with_read : Option ℕ → List ℕ → List ℕ
with_read None vs = vs
with_read (Some v) vs = v ∷ vs

abbrev pub values : List Entry → List ℕ
values [] = []
values (e ∷ es) = with_read e.access.read (values es)

abbrev pub accesses : List Entry → List Access
accesses es = map (λ e. e.access) es

-- the last write to a location
abbrev pub Ending : (ℕ → ℕ) → History → ℕ → ℕ → Type 0
Ending init h l v = (n : ℕ) × (held : Event) × Latest init h n l v held × ((u j : ℕ) (d : Entry) → Holds h u j d → d.moment < n)

abbrev pub Ends : (ℕ → ℕ) → History → (ℕ → ℕ) → Type 0
Ends init h memory = Good init h × ((l : ℕ) → Ending init h l (memory l))

-- one step of a trace
module _ (does : Local → Action) (gap : ℕ → Bool) (k n : ℕ) (s : Local) where
  abbrev inside : ℕ
  inside = entered (gap s.place) n

-- a section may begin at a gap that is fenced
entered_cases : (b : Bool) (n : ℕ) (bs : List Pending) → (b ≡ true → bs ≡ []) → (n ≡ entered b n) ⊎ (bs ≡ [])
entered_cases true n bs h = inr (h refl)
entered_cases false n bs h = inl refl

module _ (p : Listing) (gaps : Gaps) (init : ℕ → ℕ) (last : State) where
  abbrev pub plays : ℕ → ℕ → ℕ → Local → List ℕ → Trace
  plays t k n s given = trace (action p.threads t) (gaps t) k n s given

  abbrev pub whole : ℕ → List Entry → Trace
  whole t es = record { accesses = accesses es; last = last.locals t; unused = [] }

  -- what the rest of a run adds to the past, from these states of the threads and these sections, and shows from this moment on
  pub record Rest (locals : ℕ → Local) (section : ℕ → ℕ) (past : History) (waiting : ℕ → List (ℕ × Event)) (n : ℕ) (ms : List Mark) : Type 0 where
    pub future : History
    pub traces : (t : ℕ) → (k : ℕ) × (plays t k (section t) (locals t) (values (future t)) ≡ whole t (future t))
    pub ends : Ends init (joined past future) last.memory
    pub values : (t i : ℕ) (e : Entry) (v : ℕ) → Holds future t i e → e.access.read ≡ Some v → IsHeldValue p e.access.location v
    pub tells : Tells past future waiting n ms

  -- a store that has waited arrives
  rest_flush : (locals : ℕ → Local) (section : ℕ → ℕ) (past : History) (waiting others : ℕ → List (ℕ × Event)) (n : ℕ) (x : Event) (ms : List Mark) →
      ((y : Event) → Waits waiting y ↔ ((y ≡ x) ⊎ Waits others y)) → ((future : History) → moment_of (joined past future) x ≡ n) →
      Rest locals section past others (suc n) ms → Rest locals section past waiting n (Arrives x ∷ ms)
  rest_flush locals section past waiting others n x ms waits now r = record {
    future = r.future;
    traces = r.traces;
    ends = r.ends;
    values = r.values;
    tells = tells_flush past r.future waiting others n x ms waits (now r.future) r.tells;
  }

  -- a step with no access
  module _ (locals : ℕ → Local) (section : ℕ → ℕ) (past : History) (t : ℕ) (next : Local) (m : ℕ) (waiting : ℕ → List (ℕ × Event)) (n : ℕ) (ms : List Mark) where
    pub rest_quiet : ((k : ℕ) (given : List ℕ) → plays t (suc k) (section t) (locals t) given ≡ plays t k m next given) →
        Rest (put locals t next) (put section t m) past waiting (suc n) ms → Rest locals section past waiting n ms
    rest_quiet step r = record {
      future = r.future;
      traces = λ u. put_both (λ u m next. (k : ℕ) × (plays u k m next (values (r.future u)) ≡ whole u (r.future u)) → (k : ℕ) × (plays u k (section u) (locals u) (values (r.future u)) ≡ whole u (r.future u)))
          section locals t m next (λ (k, e). (suc k, step k (values (r.future t)) ∙ e)) (λ u q x. x) u (r.traces u);
      ends = r.ends;
      values = r.values;
      tells = tells_quiet past r.future waiting n ms r.tells;
    }

    pub rest_entry : (e : Entry) (section' : ℕ → ℕ) → (section' t ≡ m) → ((u : ℕ) → (u ≡ t → ⊥) → section' u ≡ section u) →
        ((k : ℕ) (given : List ℕ) → plays t (suc k) (section t) (locals t) (with_read e.access.read given) ≡ with_access e.access (plays t k m next given)) →
        ((v : ℕ) → e.access.read ≡ Some v → IsHeldValue p e.access.location v) → (later : ℕ → List (ℕ × Event)) (front : List Mark) → IsShownAs past t e waiting later n front →
        Rest (put locals t next) section' (with_entry past t e) later (suc n) ms → Rest locals section past waiting n (front ++ ms)
    rest_entry e section' here_is others step valued later front shown r = record {
      future = future;
      traces = λ u. elim (cases_eq u t) [
        | inl q ↦ subst (λ z. (k : ℕ) × (plays z k (section z) (locals z) (values (future z)) ≡ whole z (future z))) (sym q) here
        | inr q ↦ (let (k, a) = r.traces u in (k, rw (put_other r.future t (e ∷ r.future t) u q) (rw (others u q, put_other locals t next u q) at a)))
      ];
      ends = subst (λ z. Ends init z last.memory) (same_joined past r.future t e) r.ends;
      tells = tells_entry past r.future t e waiting later n front ms shown r.tells;
      values = put_each (λ u es. (i : ℕ) (d : Entry) (v : ℕ) → slice_get es i ≡ Some d → d.access.read ≡ Some v → IsHeldValue p d.access.location v) r.future t (e ∷ r.future t) first (λ u q. r.values u);
    }
      where
        future : History
        future = put r.future t (e ∷ r.future t)

        first : (i : ℕ) (d : Entry) (v : ℕ) → slice_get (e ∷ r.future t) i ≡ Some d → d.access.read ≡ Some v → IsHeldValue p d.access.location v
        first zero d v a b = let q : e ≡ d = same_Some e d a in
            subst (λ (z : Entry). (v : ℕ) → z.access.read ≡ Some v → IsHeldValue p z.access.location v) q valued v b
        first (suc i) d v a b = r.values t i d v a b

        here : (k : ℕ) × (plays t k (section t) (locals t) (values (future t)) ≡ whole t (future t))
        here = let (k, a) = r.traces t in
            let b : plays t k m next (values (r.future t)) ≡ whole t (r.future t) = rw (here_is, put_same locals t next) at a in
            (suc k, rw (put_same r.future t (e ∷ r.future t)) (step k (values (r.future t)) ∙ ap (with_access e.access) b))

  -- at the end nothing waits, so the history is as it stands
  at_end : (past : History) (o : Origins) (n : ℕ) (section : ℕ → ℕ) → ((t : ℕ) → last.buffers t ≡ []) →
      Inv init past last.buffers last.memory o n section [] → Rest last.locals section past o.waiting n []
  at_end past o n section empty inv = record {
    future = λ t. [];
    traces = λ t. (0, refl);
    ends = subst (λ z. Ends init z last.memory) (fun_ext (λ t. sym (append-nil (past t)))) (inv.good, (λ l. (n, o.memory l, inv.latest l, over)));
    values = λ t i e v a. absurd cc;
    tells = tells_end past o.waiting n (λ x (t, q, l, a). let within = slice_get_within (o.waiting t) q (l, x) a in let long = inv.long t in let none = ap length (empty t) in omega arith);
  }
    where
      over : (u j : ℕ) (d : Entry) → Holds past u j d → d.moment < n
      over u j d a = elim (cases_lt d.moment n) [ inl x ↦ x | inr x ↦ absurd (none_waits (inv.waiting u j d a x) (empty u)) ]

  -- a step, with what it shows first
  after_step : (l : Label) (ls : List Label) (s s' : State) (o o' : Origins) (first : List Mark) (section : ℕ → ℕ) (past : History) (n : ℕ) → step p (StoreBufferMachine gaps) s l ≡ Some s' →
      origins_after p (StoreBufferMachine gaps) s o l ≡ o' → marks_at p (StoreBufferMachine gaps) s o l ≡ first →
      Rest s.locals section past o.waiting n (first ++ marks p (StoreBufferMachine gaps) s' o' ls) → Rest s.locals section past o.waiting n (marks p (StoreBufferMachine gaps) s o (l ∷ ls))
  after_step l ls s s' o o' first section past n e f h rest = subst (λ ms. Rest s.locals section past o.waiting n ms) (sym (marks_step p (StoreBufferMachine gaps) l ls s s' o o' first e f h)) rest

  pub played : ((t : ℕ) → last.buffers t ≡ []) → (ls : List Label) (s : State) (o : Origins) (n : ℕ) (section : ℕ → ℕ) (past : History) →
      Inv init past s.buffers s.memory o n section ls → Valued p s.locals s.buffers s.memory → run p (StoreBufferMachine gaps) s ls ≡ Some last →
      Rest s.locals section past o.waiting n (marks p (StoreBufferMachine gaps) s o ls)
  played empty [] s o n section past inv vd r = let e : s ≡ last = cc in
      subst (λ (z : State). Rest z.locals section past o.waiting n []) (sym e)
      (at_end past o n section empty (subst (λ (z : State). Inv init past z.buffers z.memory o n section []) e inv))
  played empty (Flush t ∷ ls) s o n section past inv vd r = flush_by last (λ next. run p (StoreBufferMachine gaps) next ls) p gaps s t _ r
      (λ w ws e r.
      let first = head init past s.buffers s.memory o n section t w ws ls e inv in
      let others = others_wait init past s.buffers s.memory o n section t w ws ls e inv in
      let s' : State = record s { buffers = put s.buffers t ws; memory = put s.memory w.location w.value } in
      let o' = after_it init past s.buffers s.memory o n section t w ws ls e inv in
      after_step (Flush t) ls s s' o o' (Arrives (At t first.index) ∷ []) section past n (ap (flushed s t) e) (ap (flushed_origins o t) others.1) (ap flushed_marks others.1)
      (rest_flush s.locals section past o.waiting (put o.waiting t others.0) n (At t first.index) (marks p (StoreBufferMachine gaps) s' o' ls)
      (waits_flush o.waiting t w.location (At t first.index) others.0 others.1)
      (λ future. moment_old past future t first.index first.entry first.holds ∙ sym (same_Some n first.entry.moment first.at))
      (played empty ls s' o' (suc n) section past (inv_flush init past s.buffers s.memory o n section t w ws ls e inv) (valued_flush p s vd t w ws e) r)))
  played empty (Exec t ∷ ls) s o n section past inv vd r = exec_by last (λ next. run p (StoreBufferMachine gaps) next ls) p gaps s t _ r
      (λ next e g r.
      let s' : State = record s { locals = put s.locals t next } in
      after_step (Exec t) ls s s' o o [] section past n (exec_ok p gaps s s' t g (rw e refl)) (ap (buffered_origins o t) e) (ap (buffered_marks s o t) e)
      (rest_quiet s.locals section past t next (inside t) o.waiting n (marks p (StoreBufferMachine gaps) s' o ls)
      (λ k given. (rw e refl))
      (played empty ls s' o (suc n) (put section t (inside t)) past (tick init past s.buffers s.memory o n (put section t (inside t)) t ls
      (inv_section init past s.buffers s.memory o n section (Exec t ∷ ls) t (inside t) (entered_cases (gap t) (section t) (s.buffers t) g) inv)) (valued_local p s vd t next (knows (Go next) e)) r)))
      (λ next e b r.
      let s' : State = record s { locals = put s.locals t next } in
      after_step (Exec t) ls s s' o o [] section past n (exec_ok p gaps s s' t (λ g. b) (rw e (ap (λ ws. when_empty ws s') b))) (ap (buffered_origins o t) e) (ap (buffered_marks s o t) e)
      (rest_quiet s.locals section past t next (suc (inside t)) o.waiting n (marks p (StoreBufferMachine gaps) s' o ls)
      (λ k given. (rw e refl))
      (played empty ls s' o (suc n) (put section t (suc (inside t))) past (tick init past s.buffers s.memory o n (put section t (suc (inside t))) t ls
      (inv_section init past s.buffers s.memory o n section (Exec t ∷ ls) t (suc (inside t)) (inr b) inv)) (valued_local p s vd t next (knows (Wait next) e)) r)))
      (λ l to next e g r.
      let v = found (newest l (s.buffers t)) (s.memory l) in
      let w = found_write l (o.waiting t) (o.memory l) in
      let inv1 : Inv init past s.buffers s.memory o n (put section t (inside t)) (Exec t ∷ ls) =
      inv_section init past s.buffers s.memory o n section (Exec t ∷ ls) t (inside t) (entered_cases (gap t) (section t) (s.buffers t) g) inv in
      let seen = seen_any init past s.buffers s.memory o n (put section t (inside t)) t l ls inv1 in
      let x = read_entry init past s.buffers s.memory o n (put section t (inside t)) t l v None ls inv1 w seen (inl refl) in
      let s' : State = record s { locals = put s.locals t (loaded to v next) } in
      let first : List Mark = Takes (At t (length (past t))) v x.source ∷ [] in
      let here = inv.made t in
      after_step (Exec t) ls s s' o (with_made o t) first section past n (exec_ok p gaps s s' t g (rw e refl)) (ap (buffered_origins o t) e)
      (ap (buffered_marks s o t) e ∙ (λ i. Takes (At t (here i)) v (seen.found_is i) ∷ []))
      (rest_entry s.locals section past t (loaded to v next) (inside t) o.waiting n (marks p (StoreBufferMachine gaps) s' (with_made o t) ls) x (put section t (inside t)) (put_same section t (inside t)) (put_other section t (inside t))
      (λ k given. rw (put_same section t (inside t)) (rw e refl))
      (λ x q. subst (λ z. IsHeldValue p l z) (same_Some v x q) (found_value p s vd t l)) o.waiting first (shown_load past t x o.waiting n v refl refl)
      (played empty ls s' (with_made o t) (suc n) (put section t (inside t)) (with_entry past t x)
      (inv_load init past s.buffers s.memory o n (put section t (inside t)) t l v None ls inv1 w seen (inl refl) refl) (valued_loaded p s vd t l to next v (found_value p s vd t l) (knows (Read l to next) e)) r)))
      (λ l v next e g r.
      let inv1 : Inv init past s.buffers s.memory o n (put section t (inside t)) (Exec t ∷ ls) =
      inv_section init past s.buffers s.memory o n section (Exec t ∷ ls) t (inside t) (entered_cases (gap t) (section t) (s.buffers t) g) inv in
      let m = get_or (due t (suc n) ls) (length (s.buffers t)) 0 in
      let room = grown_here s.buffers t (record { location = l; value = v }) (length (due t (suc n) ls)) (enough p gaps t last (empty t) ls _ (suc n) r) in
      let at = slice_get-get_or (due t (suc n) ls) (length (s.buffers t)) 0 room in
      let x = write_entry init past s.buffers s.memory o n (put section t (inside t)) t l v m ls inv1 at in
      let s' : State = record s { locals = put s.locals t next; buffers = put s.buffers t (s.buffers t ++ record { location = l; value = v } ∷ []) } in
      let ws : List (ℕ × Event) = o.waiting t ++ (l, At t (o.made t)) ∷ [] in
      let o' : Origins = with_made (with_waiting o t ws) t in
      after_step (Exec t) ls s s' o o' [] section past n (exec_ok p gaps s s' t g (rw e refl)) (ap (buffered_origins o t) e) (ap (buffered_marks s o t) e)
      (rest_entry s.locals section past t next (inside t) o.waiting n (marks p (StoreBufferMachine gaps) s' o' ls) x (put section t (inside t)) (put_same section t (inside t)) (put_other section t (inside t))
      (λ k given. rw (put_same section t (inside t)) (rw e refl))
      (λ x q. absurd cc) (put o.waiting t ws) []
      (subst (λ z. IsShownAs past t x o.waiting (put o.waiting t (o.waiting t ++ (l, At t z) ∷ [])) n []) (sym (inv.made t)) (shown_store past t x o.waiting n l refl refl))
      (played empty ls s' o' (suc n) (put section t (inside t)) (with_entry past t x)
      (inv_write init past s.buffers s.memory o n (put section t (inside t)) t l v m ls inv1 at) (let k = knows (Write l v next) e in valued_write p s vd t next l v k.0 k.1) r)))
      (λ l w to next e b r.
      let v = s.memory l in
      let inv1 : Inv init past s.buffers s.memory o n (put section t (inside t)) (Exec t ∷ ls) =
      inv_section init past s.buffers s.memory o n section (Exec t ∷ ls) t (inside t) (inr b) inv in
      let seen = seen_memory init past s.buffers s.memory o n (put section t (inside t)) t l ls inv1 (rw b refl) in
      let x = read_entry init past s.buffers s.memory o n (put section t (inside t)) t l v (Some w) ls inv1 (o.memory l) seen (inr b) in
      let section2 = put (put section t (inside t)) t (suc (inside t)) in
      let s' : State = record s { locals = put s.locals t (loaded to v next); memory = put s.memory l w } in
      let o' : Origins = with_made (with_memory o l (At t (o.made t))) t in
      let here = inv.made t in
      let first : List Mark = Takes (At t (length (past t))) v x.source ∷ Arrives (At t (length (past t))) ∷ [] in
      after_step (Exec t) ls s s' o o' first section past n (exec_ok p gaps s s' t (λ g. b) (rw e (ap (λ ws. when_empty ws s') b))) (ap (buffered_origins o t) e)
      (ap (buffered_marks s o t) e ∙ (λ i. Takes (At t (here i)) v (seen.found_is i) ∷ Arrives (At t (here i)) ∷ []))
      (rest_entry s.locals section past t (loaded to v next) (suc (inside t)) o.waiting n (marks p (StoreBufferMachine gaps) s' o' ls) x section2 (put_same (put section t (inside t)) t (suc (inside t)))
      (λ u q. put_other (put section t (inside t)) t (suc (inside t)) u q ∙ put_other section t (inside t) u q)
      (λ k given. rw (put_same section t (inside t)) (rw e refl))
      (λ x q. subst (λ z. IsHeldValue p l z) (same_Some v x q) (vd.stored l)) o.waiting first (shown_exchange past t x o.waiting n v refl refl refl)
      (played empty ls s' o' (suc n) section2 (with_entry past t x)
      (inv_section init (with_entry past t x) s.buffers (put s.memory l w) o' (suc n) (put section t (inside t)) ls t (suc (inside t)) (inr b)
      (inv_swap init past s.buffers s.memory o n (put section t (inside t)) t l v (Some w) ls inv1 (o.memory l) seen (inr b) w refl)) (let k = knows (Swap l w to next) e in valued_memory p s vd t _ l w k.1 (valued_loaded p s vd t l to next v (vd.stored l) k.0)) r)))
    where
      gap : ℕ → Bool
      gap t = gaps t (s.locals t).place

      inside : ℕ → ℕ
      inside t = entered (gap t) (section t)

      knows : (a : Action) → action p.threads t (s.locals t) ≡ a → Fair p t a
      knows a e = fair_at p t (s.locals t) a (vd.registers t) e
