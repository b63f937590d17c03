-- Each run is a consistent candidate.
use Rattle.candidate_executions.proofs.Vocabulary.{◌≡◌, ◌≢◌, ℕ, ◌<◌, ◌≤◌, true, List, [], ◌∷◌, Some, None, IsSome, Contains, slice_get, slice_index, option_map, map, refl, sym, ap, ap₂, ◌∙◌, subst, inl, inr, arith, length, lit<, fun_ext}
use Rattle.candidate_executions.proofs.Vocabulary.{length-map-range_with_len, get_or-map-range_with_len, range_with_len, AllPairs, same_Some, slice_get-map, Listing, Stop, action, start_of, code_of, Gaps, Outcome, JumpForward, Label, Access, Event, Initial}
use Rattle.candidate_executions.proofs.Vocabulary.{At, Candidate, trace_of, access, Writes, IsCandidate, EndsWith, HasOutcome, Trace, IsConsistent, IsHeldValue, ReadsHeldValues, first_origins, Mark, Takes, Arrives, marks_of, ReadsValue, IsStored, ArriveInOrder, IsCandidateOf}
use Rattle.candidate_executions.proofs.Vocabulary.{Machine, SequentialMachine, StoreBufferMachine, State, run, start, outcome_at, HasEnded, IsRun, EveryRunIsACandidate, EveryRunIsACompletion}
use Rattle.candidate_executions.proofs.Sketches.KnownEdges.{completes_empty}
use Rattle.candidate_executions.proofs.FromRuns.Histories.{Entry, History, Holds, Wrote, Good, Source}
use Rattle.candidate_executions.proofs.FromRuns.CandidateOfHistory.{candidate_with, Shows, source_of_entry, moment_of_entry, moment_of}
use Rattle.candidate_executions.proofs.FromRuns.EdgesGoForward.{at_thread, global_acyclic, location_acyclic, whole_acyclic}
use Rattle.candidate_executions.proofs.FromRuns.PairsOfMarks.{PairsOf, pairs_all}
use Rattle.candidate_executions.proofs.FromRuns.MarksOfHistories.{NewRead, NewWrite, Waits, Sooner}
use Rattle.candidate_executions.proofs.FromRuns.RunInvariant.{Inv}
use Rattle.candidate_executions.proofs.FromRuns.RunsLeaveHistories.{values, accesses, Ending, Rest, played}
use Rattle.candidate_executions.proofs.{FromRuns.StoredValues.valued_start, FromRuns.StepsSuffice.fuel, FromRuns.SequentialIsBuffered.embed}
use Rattle.tso_machine.proofs.Advance.{advance}
use Rattle.candidate_executions.proofs.FromRuns.KnownValues.{held_is_value}
use Rattle.candidate_executions.proofs.FromRuns.OtherSections.{reads_too, stored_too, in_order_too, candidate_too, outcome_too, acyclic_too, held_too}
use Rattle.candidate_executions.proofs.Sections.SectionsRise.{rising}

-- the labels have a consistent candidate, with the outcome, whose reads take values that their locations may hold
abbrev pub HasHeldCandidate : Listing → Machine → List Label → Outcome → Type 0
HasHeldCandidate p mode labels o =
    (c : Candidate) × IsCandidate p mode c × IsConsistent p mode c × HasOutcome p mode c o × IsCandidateOf p mode labels c × ReadsHeldValues p mode c

nothing_held : {A : Type 0} (t i : ℕ) (e : Entry) → Holds (λ t. []) t i e → A
nothing_held t i e a = absurd cc

at_start : (init : ℕ → ℕ) (ls : List Label) → Inv init (λ t. []) (λ t. []) init first_origins 1 (λ t. 0) ls
at_start init ls = record {
  good = record {
    acts = λ t i e a. nothing_held t i e a;
    first = λ t i e a. nothing_held t i e a;
    delay = λ t i e a. nothing_held t i e a;
    prompt = λ t i e a. nothing_held t i e a;
    source = λ t i e v a. nothing_held t i e a;
    order = λ t j i d e a. nothing_held t j d a;
    kept = λ t j i d e a. nothing_held t j d a;
    latest = λ u j t i d e a. nothing_held u j d a;
    apart = λ u j t i d e a. nothing_held u j d a;
  };
  positive = lit< tt;
  early = λ t i e a. nothing_held t i e a;
  latest = λ l. record { event = Initial l; held_is = refl; moment = 0; before = lit< tt; origin = inl (refl, refl, refl); newest = λ u j d a. nothing_held u j d a };
  stored = λ t q w a. absurd cc;
  made = λ t. refl;
  long = λ t. refl;
  waiting = λ t i e a. nothing_held t i e a;
}

module _ (p : Listing) (gaps : Gaps) (forward : JumpForward p.threads) (labels : List Label) (last : State)
    (runs : run p (StoreBufferMachine gaps) (start p) labels ≡ Some last) (ended : HasEnded p last) where
  abbrev init : ℕ → ℕ
  init = slice_index p.memory

  rest : Rest p gaps init last (start_of p.threads) (λ t. 0) (λ t. []) (λ t. []) 1 (marks_of p (StoreBufferMachine gaps) labels)
  rest = played p gaps init last (λ t. (ended t).1) labels (start p) first_origins 1 (λ t. 0) (λ t. []) (at_start init labels) (valued_start p) runs

  abbrev h : History
  h = rest.future

  good : Good init h
  good = rest.ends.0

  ending : (l : ℕ) → Ending init h l (last.memory l)
  ending = rest.ends.1

  abbrev c : Candidate
  c = candidate_with h (λ t. values (h t))

  abbrev mode : Machine
  mode = StoreBufferMachine gaps

  trace_is : (t : ℕ) → trace_of p mode c t ≡ record { accesses = accesses (h t); last = last.locals t; unused = [] }
  trace_is t =
      let (k, e) = rest.traces t in
      let z : action p.threads t (last.locals t) ≡ Stop = (ended t).0 in
      fuel (action p.threads t) (gaps t) (length (code_of p.threads t)) (λ s. advance p forward t s) k (length (code_of p.threads t)) 0 (start_of p.threads t) (values (h t)) (rw e z) (omega arith) ∙ e

  shows : Shows (access p mode c) h
  shows = record {
    of_initial = λ l x a. (sym (ap (λ (z : Access). z.read) (same_Some _ x a)), sym (ap (λ (z : Access). z.location) (same_Some _ x a)));
    of_thread = λ t i. rw (trace_is t) (slice_get-map (λ (e : Entry). e.access) (h t) i);
  }

  consistent : IsConsistent p mode c
  consistent = (location_acyclic init h good (access p mode c) shows (λ t. values (h t)), global_acyclic init h good (access p mode c) shows (λ t. values (h t)))

  at : (t i : ℕ) (x : Access) → access p mode c (At t i) ≡ Some x → (e : Entry) × Holds h t i e × (x ≡ e.access)
  at = at_thread init h good (access p mode c) shows

  held : (t i : ℕ) (e : Entry) → Holds h t i e → access p mode c (At t i) ≡ Some e.access
  held t i e a = shows.of_thread t i ∙ ap (option_map (λ (e : Entry). e.access)) a

  writes_wrote : (l v m : ℕ) (e : Event) → Wrote h l v e m → Writes (access p mode c) e l v
  writes_wrote l v m e w = (w.write.access, ap (access p mode c) w.is_event ∙ held w.thread w.index w.write w.holds, w.location, w.written)

  writes_initial : (l v : ℕ) → v ≡ init l → Writes (access p mode c) (Initial l) l v
  writes_initial l v e = (_, refl, refl, ap Some (sym e))

  not_itself : (t i : ℕ) (f : Entry) (v : ℕ) → Holds h t i f → f.access.read ≡ Some v → (s : Source h t i f v) → At s.0.thread s.0.index ≡ At t i → ⊥
  not_itself t i f v fh r s e =
      let a : s.0.thread ≡ t = cc in
      let b : s.0.index ≡ i = cc in
      let w : s.0.write ≡ f = (same_Some s.0.write f (sym s.0.holds ∙ (ap₂ (λ x y. slice_get (h x) y) a b ∙ fh))) in
      let m : s.0.write.moment ≡ f.moment = ap (λ (z : Entry). z.moment) w in
      let k : f.moment ≡ f.exec = good.prompt t i f fh (rw r refl) in
      elim s.1 [ inl q ↦ omega arith | inr q ↦ omega arith ]

  entry_source : (t i : ℕ) (f : Entry) (v : ℕ) → Holds h t i f → f.access.read ≡ Some v →
      (c.source (At t i) ≢ At t i) × Writes (access p mode c) (c.source (At t i)) f.access.location v
  entry_source t i f v fh r = let z : c.source (At t i) ≡ f.source = ap source_of_entry fh in elim (good.source t i f v fh r) [
    | inl s ↦ ((λ e. let y : Initial f.access.location ≡ At t i = sym s.0 ∙ (sym z ∙ e) in cc), rw (z, s.0) (writes_initial f.access.location v s.2))
    | inr s ↦ ((λ e. not_itself t i f v fh r s (sym s.0.is_event ∙ (sym z ∙ e))), rw z (writes_wrote f.access.location v f.seen f.source s.0))
  ]

  sources : (e : Event) (x : Access) (v : ℕ) → access p mode c e ≡ Some x → x.read ≡ Some v →
      (c.source e ≢ e) × Writes (access p mode c) (c.source e) x.location v
  sources (Initial l) x v a r = absurd (let z : x.read ≡ None = (shows.of_initial l x a).0 in let y : None ≡ Some v = sym z ∙ r in cc)
  sources (At t i) x v a r =
      let (f, fh, fx) = at t i x a in
      subst (λ (z : Access). (c.source (At t i) ≢ At t i) × Writes (access p mode c) (c.source (At t i)) z.location v) (sym fx)
      (entry_source t i f v fh (sym (ap (λ (z : Access). z.read) fx) ∙ r))

  late : (t i : ℕ) (x : Access) → access p mode c (At t i) ≡ Some x → c.rank (At t i) ≡ 0 → ⊥
  late t i x a q = let (f, fh, fx) = at t i x a in
      let z : c.rank (At t i) ≡ f.moment = ap moment_of_entry fh in
      let y = good.first t i f fh in let d = good.delay t i f fh in omega arith

  ranks : (d e : Event) (l v w : ℕ) → Writes (access p mode c) d l v → Writes (access p mode c) e l w → c.rank d ≡ c.rank e → d ≡ e
  ranks (Initial k) (Initial m) l v w a b q =
      let x : k ≡ a.0.location = (ap (λ (z : Access). z.location) (same_Some _ a.0 a.1)) in
      let y : m ≡ b.0.location = (ap (λ (z : Access). z.location) (same_Some _ b.0 b.1)) in
      ap Initial (x ∙ (a.2 ∙ sym (y ∙ b.2)))
  ranks (Initial k) (At t i) l v w a b q = absurd (late t i b.0 b.1 (sym q))
  ranks (At t i) (Initial k) l v w a b q = absurd (late t i a.0 a.1 q)
  ranks (At t i) (At u j) l v w a b q =
      let (f, fh, fx) = at t i a.0 a.1 in
      let (g, gh, gx) = at u j b.0 b.1 in
      let z = good.apart t i u j f g fh gh (sym (ap moment_of_entry fh) ∙ (q ∙ ap moment_of_entry gh)) in
      ap₂ At z.0 z.1

  held_reads : ReadsHeldValues p mode c
  held_reads (Initial l) x v a r = absurd (let z : x.read ≡ None = (shows.of_initial l x a).0 in let y : None ≡ Some v = sym z ∙ r in cc)
  held_reads (At t i) x v a r =
      let (f, fh, fx) = at t i x a in
      subst (λ (z : Access). IsHeldValue p z.location v) (sym fx) (rest.values t i f v fh (sym (ap (λ (z : Access). z.read) fx) ∙ r))

  is_candidate : IsCandidate p mode c
  is_candidate = record {
    whole = λ t. rw (trace_is t) ((ended t).0, refl);
    values = λ e x v a r. held_is_value p x.location v (held_reads e x v a r);
    sources = sources;
    ranks = ranks;
    initial = λ e l v a. omega arith;
  }

  entry_below : (d : Event) (l w k : ℕ) → ((u j : ℕ) (d : Entry) → Holds h u j d → d.access.location ≡ l → IsSome d.access.written → d.moment ≤ k) →
      Writes (access p mode c) d l w → c.rank d ≤ k
  entry_below (Initial m) l w k f a = omega arith
  entry_below (At t i) l w k f a =
      let (g, gh, gx) = at t i a.0 a.1 in
      let z : c.rank (At t i) ≡ g.moment = ap moment_of_entry gh in
      let y : g.access.written ≡ Some w = sym (ap (λ (z : Access). z.written) gx) ∙ a.3 in
      let x : g.access.location ≡ l = sym (ap (λ (z : Access). z.location) gx) ∙ a.2 in
      let b = f t i g gh x (rw y refl) in omega arith

  ends_with : (l : ℕ) → EndsWith p mode c l (last.memory l)
  ends_with l =
      let (n, held, e, all) = ending l in
      let below = λ (d : Event) (w : ℕ) (a : Writes (access p mode c) d l w). entry_below d l w e.moment (λ u j d b c k. e.newest u j d b c k (all u j d b)) a in
      elim e.origin [
        | inl u ↦ (e.event, rw u.0 (writes_initial l (last.memory l) u.2), (λ d w a. let b = below d w a in let z = u.1 in omega arith))
        | inr w ↦ (
          e.event,
          writes_wrote l (last.memory l) e.moment e.event w,
          (λ d x a. let b = below d x a in let z = w.at in let y : c.rank e.event ≡ w.write.moment = ap c.rank w.is_event ∙ ap moment_of_entry w.holds in omega arith),
        )
      ]

  has_outcome : HasOutcome p mode c (outcome_at p last)
  has_outcome = record {
    registers = ap (λ f. map f (range_with_len 0 (length p.threads))) (fun_ext (λ t. sym (ap (λ (z : Trace). z.last.registers) (trace_is t))));
    long = length-map-range_with_len last.memory 0 (length p.memory);
    memory = λ l b. rw (get_or-map-range_with_len last.memory 0 (length p.memory) l l 0 b (omega arith)) (ends_with l);
  }

  -- nothing waits at the start
  none_waits_yet : (x : Event) → Waits (λ t. []) x → ⊥
  none_waits_yet x (t, q, l, a) = cc

  reads_of : (x d : Event) (v : ℕ) → NewRead (λ t. []) h x v d → ReadsValue (access p mode c) x v × (c.source x ≡ d)
  reads_of x d v (f, (t, i, q, a), r, s) =
      let here : x ≡ At t i = q ∙ ap (At t) (omega arith) in
      ((f.access, ap (access p mode c) here ∙ held t i f a, r), ap c.source here ∙ (ap source_of_entry a ∙ s))

  read_by : (x d : Event) (v : ℕ) → ReadsValue (access p mode c) x v → c.source x ≡ d → NewRead (λ t. []) h x v d
  read_by (Initial l) d v (x, a, r) s = absurd (let z : x.read ≡ None = (shows.of_initial l x a).0 in let y : None ≡ Some v = sym z ∙ r in cc)
  read_by (At t i) d v (x, a, r) s =
      let (f, fh, fx) = at t i x a in
      (f, (t, i, ap (At t) (omega arith), fh), sym (ap (λ (z : Access). z.read) fx) ∙ r, sym (ap source_of_entry fh) ∙ s)

  stored_of : (x : Event) → NewWrite (λ t. []) h x → IsStored (access p mode c) x
  stored_of x (f, (t, i, q, a), w) =
      let here : x ≡ At t i = q ∙ ap (At t) (omega arith) in
      subst (λ z. IsStored (access p mode c) z) (sym here) (f.access, held t i f a, w)

  stored_by : (x : Event) → IsStored (access p mode c) x → NewWrite (λ t. []) h x
  stored_by (Initial l) w = absurd w
  stored_by (At t i) (x, a, w) = let (f, fh, fx) = at t i x a in (f, (t, i, ap (At t) (omega arith), fh), subst (λ (z : Access). IsSome z.written) fx w)

  -- what arrives sooner has the lower rank
  lower : (ms : List Mark) → PairsOf (Sooner (moment_of h)) ms → PairsOf (ArriveInOrder (access p mode c) c) ms
  lower [] s = tt
  lower (m ∷ ms) s = ((λ y i. ordered m y (s.0 y i)), lower ms s.1)
    where
      ordered : (m y : Mark) → Sooner (moment_of h) m y → ArriveInOrder (access p mode c) c m y
      ordered (Arrives d) (Arrives e) k = λ l v w a b. k
      ordered m y k = tt

  is_candidate_of : IsCandidateOf p mode labels c
  is_candidate_of = record {
    takes = λ x d v. ((λ i. reads_of x d v ((rest.tells.takes x d v).0 i)), λ (a, s). (rest.tells.takes x d v).1 (read_by x d v a s));
    arrives = λ x. (
      λ i. elim ((rest.tells.arrives x).0 i) [ inl w ↦ absurd (none_waits_yet x w) | inr w ↦ stored_of x w ],
      λ w. (rest.tells.arrives x).1 (inr (stored_by x w)),
    );
    order = pairs_all (ArriveInOrder (access p mode c) c) (marks_of p mode labels) (lower (marks_of p mode labels) rest.tells.sorted);
  }

  pub is_one : HasHeldCandidate p mode labels (outcome_at p last)
  is_one = (c, is_candidate, consistent, has_outcome, is_candidate_of, held_reads)

pub fenced_run : (p : Listing) (gaps : Gaps) (labels : List Label) (o : Outcome) → JumpForward p.threads → IsRun p (StoreBufferMachine gaps) labels o → HasHeldCandidate p (StoreBufferMachine gaps) labels o
fenced_run p gaps labels o forward r =
    subst (λ z. HasHeldCandidate p (StoreBufferMachine gaps) labels z) (sym r.3)
    (is_one p gaps forward labels r.0 r.1 r.2)

-- A sequential run is also one that waits at each gap, so all program order is kept. Of a sequential candidate no section counts.
abbrev each_gap : Gaps
each_gap t k = true

module _ (p : Listing) (forward : JumpForward p.threads) (labels : List Label) (last : State)
    (runs : run p (StoreBufferMachine each_gap) (start p) labels ≡ Some last) (ended : HasEnded p last) where
  abbrev past : History
  past = h p each_gap forward labels last runs ended

  abbrev its : Candidate
  its = candidate_with past (λ t. values (past t))

  all_kept : (t j i : ℕ) (d e : Entry) → Holds past t j d → Holds past t i e → j < i → d.moment < e.moment
  all_kept t j i d e a b n =
      let x : access p (StoreBufferMachine each_gap) its (At t j) ≡ Some d.access = held p each_gap forward labels last runs ended t j d a in
      let y : access p (StoreBufferMachine each_gap) its (At t i) ≡ Some e.access = held p each_gap forward labels last runs ended t i e b in
      let z : d.access.section < e.access.section = rising (action p.threads t) (length (code_of p.threads t)) 0 (start_of p.threads t) (values (past t)) j i d.access e.access n x y in
      (good p each_gap forward labels last runs ended).kept t j i d e a b n (inr (inr (λ q. omega arith)))

  is_sequential : IsConsistent p SequentialMachine its
  is_sequential = acyclic_too p its (StoreBufferMachine each_gap) SequentialMachine (whole_acyclic (init p each_gap forward labels last runs ended) past (good p each_gap forward labels last runs ended)
      (access p (StoreBufferMachine each_gap) its) (shows p each_gap forward labels last runs ended) all_kept (λ t. values (past t)))

  to_candidate_of : (js : List Label) → marks_of p SequentialMachine js ≡ marks_of p (StoreBufferMachine each_gap) labels → IsCandidateOf p SequentialMachine js its
  to_candidate_of js same =
      let x = is_candidate_of p each_gap forward labels last runs ended in
      let reads = reads_too p its in
      let stored = stored_too p its in
      record {
        takes = λ e d v. (
          λ i. let a = (x.takes e d v).0 (subst (λ ms. Contains ms (Takes e v d)) same i) in (reads (StoreBufferMachine each_gap) SequentialMachine e v a.0, a.1),
          λ a. subst (λ ms. Contains ms (Takes e v d)) (sym same) ((x.takes e d v).1 (reads SequentialMachine (StoreBufferMachine each_gap) e v a.0, a.1)),
        );
        arrives = λ e. (
          λ i. stored (StoreBufferMachine each_gap) SequentialMachine e ((x.arrives e).0 (subst (λ ms. Contains ms (Arrives e)) same i)),
          λ a. subst (λ ms. Contains ms (Arrives e)) (sym same) ((x.arrives e).1 (stored SequentialMachine (StoreBufferMachine each_gap) e a)),
        );
        order = subst (λ ms. AllPairs (ArriveInOrder (access p SequentialMachine its) its) ms) (sym same) (λ i j d a b. in_order_too p its (StoreBufferMachine each_gap) SequentialMachine _ _ (x.order i j d a b));
      }

  pub is_sequential_one : (js : List Label) → marks_of p SequentialMachine js ≡ marks_of p (StoreBufferMachine each_gap) labels → HasHeldCandidate p SequentialMachine js (outcome_at p last)
  is_sequential_one js same = (
    its,
    candidate_too p its (StoreBufferMachine each_gap) SequentialMachine (is_candidate p each_gap forward labels last runs ended),
    is_sequential,
    outcome_too p its (StoreBufferMachine each_gap) SequentialMachine (outcome_at p last) (has_outcome p each_gap forward labels last runs ended),
    to_candidate_of js same,
    held_too p its (StoreBufferMachine each_gap) SequentialMachine (held_reads p each_gap forward labels last runs ended),
  )

pub sequential_run : (p : Listing) (labels : List Label) (o : Outcome) → JumpForward p.threads → IsRun p SequentialMachine labels o → HasHeldCandidate p SequentialMachine labels o
sequential_run p labels o forward r =
    let (js, s, same) = embed p each_gap r.0 labels (start p) first_origins (λ t. refl) (λ t. refl) r.1 in
    subst (λ z. HasHeldCandidate p SequentialMachine labels z) (sym r.3)
    (is_sequential_one p forward js r.0 s r.2 labels same)

pub every_held_run : (p : Listing) (mode : Machine) (labels : List Label) (o : Outcome) → JumpForward p.threads → IsRun p mode labels o → HasHeldCandidate p mode labels o
every_held_run p SequentialMachine labels o = sequential_run p labels o
every_held_run p (StoreBufferMachine gaps) labels o = fenced_run p gaps labels o

pub every_run : EveryRunIsACandidate
every_run p mode labels o forward r = let (c, is, consistent, out, of, held) = every_held_run p mode labels o forward r in (c, is, consistent, out, of)

pub every_run_is_a_completion : EveryRunIsACompletion
every_run_is_a_completion p mode labels o forward r =
    let (c, is, consistent, out, of) = every_run p mode labels o forward r in
    (c, record { is_candidate = is; consistent = consistent; completes = completes_empty p c }, out)
