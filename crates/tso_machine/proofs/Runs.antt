-- How a run goes on by one step, and what it passes.
use Rattle.tso_machine.proofs.Vocabulary.{◌≡◌, ℕ, ◌+◌, ◌<◌, ◌≤◌, take, length, get_or, Bool, true, false, ◌||◌, ◌&&◌, ◌==◌, not, List, [], ◌∷◌, ◌++◌, Option, Some, None, option_and_then, refl, ap, sym, ◌∙◌, subst, inl, inr, arith, eq-eqb, slice_get}
use Rattle.tso_machine.proofs.Vocabulary.{MatchOption, is_some, if◌then◌else◌, nat_cmp, eq_by_cmp, take_more, get_or_past, slice_get-get_or, slice_get_past, option_map_or, nat_tests, cases_lt, or_from, gap_number, Label, Exec, Flush, Model, Pending, Cause}
use Rattle.tso_machine.proofs.Vocabulary.{NoSuchThread, StepFault, Refused, OutOfMemory, Thread, Listing, Local, Action, Stop, act, action, Machine, SequentialMachine, State, start, step, run, direct, is_empty, from_some, passes_at, passes, HasEnded, Applies}
use Rattle.tso_machine.proofs.Vocabulary.{StepFaultIs, Stops, ReplayFaultIs, fault_of, machine_of_model, Passes, ArePassed, Core, Cores, no_core, core_at, state_of, FitsProgram, Finished, passed_gap, gap_passed_by, and_parts as and_cases, or_right as or_after}
use Rattle.tso_machine.proofs.Vocabulary.{or_left as or_before, or_cases, eqb-true, not-true, cases_Bool}
use Rattle.std.specs.Cmp.{nat_cmp_total}
use Rattle.std.specs.FinSet as set
use Rattle.tso_machine.specs.declared.label.Model.TheVariants as models
use Rattle.std.proofs.Math.Bool.{or_assoc, or-false}

and_then_alike : (o : Option State) (f g : State → Option State) → ((s : State) → f s ≡ g s) → option_and_then f o ≡ option_and_then g o
and_then_alike (Some s) f g alike = alike s
and_then_alike None f g alike = refl

and_then_again : (o : Option State) (f g : State → Option State) → option_and_then (λ s. option_and_then g (f s)) o ≡ option_and_then g (option_and_then f o)
and_then_again (Some s) f g = refl
and_then_again None f g = refl

and_then_end : (o : Option State) → option_and_then (λ s. Some s) o ≡ o
and_then_end (Some s) = refl
and_then_end None = refl

-- in sequential mode no store ever waits
pub no_stores : (p : Listing) (labels : List Label) (s last : State) → run p SequentialMachine s labels ≡ Some last → last.buffers ≡ s.buffers
no_stores p [] s last e = let q : s ≡ last = cc in ap (λ (z : State). z.buffers) (sym q)
no_stores p (Flush t ∷ labels) s last e = absurd cc
no_stores p (Exec t ∷ labels) s last e = by_action (λ z r. no_stores p labels z last r) (action p.threads t (s.locals t)) e
  where
    by_action : ((z : State) → run p SequentialMachine z labels ≡ Some last → last.buffers ≡ z.buffers) → (a : Action) → option_and_then (λ next. run p SequentialMachine next labels) (direct s t a) ≡ Some last → last.buffers ≡ s.buffers
    by_action rest Stop r = absurd cc
    by_action rest a r = rest _ r

pub no_stores_by : (p : Listing) (gaps : set.FinSet nat_cmp) (model : Model) (labels : List Label) (s : State) → run p (machine_of_model p gaps model) (start p) labels ≡ Some s →
    model ≡ models.Sequential → (t : ℕ) → s.buffers t ≡ []
no_stores_by p gaps model labels s r e t =
    ap (λ (f : ℕ → List Pending). f t) (no_stores p labels (start p) s (subst (λ m. run p (machine_of_model p gaps m) (start p) labels ≡ Some s) e r))

-- a thread that is not there is at its end
pub no_action : (p : Listing) (t : ℕ) (local : Local) → length p.threads ≤ t → action p.threads t local ≡ Stop
no_action p t local h = ap (λ o. act (slice_get (option_map_or (λ (thread : Thread). thread.code) o []) local.place) local) (slice_get_past p.threads t h)

module _ (p : Listing) (mode : Machine) where
  run_more : (s : State) (labels : List Label) (label : Label) → run p mode s (labels ++ label ∷ []) ≡ option_and_then (λ t. step p mode t label) (run p mode s labels)
  run_more s [] label = and_then_end (step p mode s label)
  run_more s (first ∷ labels) label =
      and_then_alike (step p mode s first) _ _ (λ t. run_more t labels label)
      ∙ and_then_again (step p mode s first) _ _

  pub run_on : (s : State) (labels : List Label) (n : ℕ) (d : Label) (before last : State) → n < length labels → run p mode s (take n labels) ≡ Some before →
      step p mode before (get_or labels n d) ≡ Some last → run p mode s (take (n + 1) labels) ≡ Some last
  run_on s labels n d before last h reached made =
      rw (take_more labels n d h) (run_more s (take n labels) (get_or labels n d) ∙ ap (option_and_then (λ t. step p mode t (get_or labels n d))) reached ∙ made)

  or_end : (a b : Bool) → b ≡ false → (a || b) ≡ (false || a)
  or_end true b e = refl
  or_end false b e = e

  none_after : (o : Option State) → from_some (λ s. false) o ≡ false
  none_after (Some s) = refl
  none_after None = refl

  passes_more : (labels : List Label) (label : Label) (s last : State) (t k : ℕ) → run p mode s labels ≡ Some last →
      passes p mode s (labels ++ label ∷ []) t k ≡ (passes p mode s labels t k || passes_at last label t k)
  passes_more [] label s last t k e =
      let q : s ≡ last = cc in or_end (passes_at s label t k) _ (none_after (step p mode s label)) ∙ ap (λ z. passes_at z label t k) q
  passes_more (first ∷ labels) label s last t k e = go (step p mode s first) e (λ z r. passes_more labels label z last t k r)
    where
      go : (o : Option State) → option_and_then (λ z. run p mode z labels) o ≡ Some last →
          ((z : State) → run p mode z labels ≡ Some last → passes p mode z (labels ++ label ∷ []) t k ≡ (passes p mode z labels t k || passes_at last label t k)) →
          (passes_at s first t k || from_some (λ z. passes p mode z (labels ++ label ∷ []) t k) o)
          ≡ ((passes_at s first t k || from_some (λ z. passes p mode z labels t k) o) || passes_at last label t k)
      go None r rest = absurd cc
      go (Some z) r rest = ap (λ b. passes_at s first t k || b) (rest z r) ∙ sym (or_assoc (passes_at s first t k) _ _)

  -- a step that isn't possible, where those before it are
  stopped : (labels : List Label) (n : ℕ) (d : Label) (before : State) (cause : Cause) → n < length labels → run p mode (start p) (take n labels) ≡ Some before →
      Applies p mode before cause (get_or labels n d) → Stops p mode labels n cause
  stopped labels n d before cause h reached why =
      record { before = before; reached = reached; label = get_or labels n d; there = slice_get-get_or labels n d h; why = why }

  pub faulted : (labels : List Label) (n : ℕ) (d : Label) (before : State) (fault : StepFault) → n < length labels → run p mode (start p) (take n labels) ≡ Some before →
      StepFaultIs p mode before (get_or labels n d) fault → ReplayFaultIs p mode labels (fault_of fault n)
  faulted labels n d before (Refused NoSuchThread) h reached why = stopped labels n d before NoSuchThread h reached why
  faulted labels n d before (Refused cause) h reached why = stopped labels n d before cause h reached why
  faulted labels n d before OutOfMemory h reached why = tt

-- all threads are at their ends
pub all_ended : (p : Listing) (s : Cores) → FitsProgram p s → ((t : ℕ) → t < length s.cores → Finished p t (core_at s.cores t)) → HasEnded p (state_of s)
all_ended p s fits each t = elim (cases_lt t (length s.cores)) [
  | inl h ↦ each t h
  | inr h ↦ (let e : core_at s.cores t ≡ no_core = get_or_past s.cores t no_core h in
      (subst (λ (c : Core). action p.threads t c.local ≡ Stop) (sym e) (no_action p t no_core.local (subst (λ n. n ≤ t) fits.threads h)), ap (λ (c : Core). c.buffer) e))
]

abbrev is_gap : Option ℕ → ℕ → Bool
is_gap o g = option_map_or (λ h. h == g) o false

tied : (g h : ℕ) (b : Bool) → (eq_by_cmp nat_cmp g h || b) ≡ (b || (h == g))
tied g h true = grind (arith, nat_tests)
tied g h false = grind (arith, nat_tests)

with_gap_contains : (gaps : set.FinSet nat_cmp) (o : Option ℕ) (g : ℕ) → set.contains (option_map_or (set.insert gaps) o gaps) g ≡ (set.contains gaps g || is_gap o g)
with_gap_contains gaps None g = sym (or-false (set.contains gaps g))
with_gap_contains gaps (Some h) g = set.contains-insert nat_cmp_total gaps h g ∙ tied g h (set.contains gaps g)

some_gap : (o : Option ℕ) (g : ℕ) → is_gap o g ≡ true → o ≡ Some g
some_gap None g e = absurd cc
some_gap (Some h) g e = ap Some (eqb-true h g e)

gap_some : (o : Option ℕ) (g : ℕ) → o ≡ Some g → is_gap o g ≡ true
gap_some None g e = absurd cc
gap_some (Some h) g e = eq-eqb h g cc

module _ (p : Listing) (s : Cores) where
  -- the step passes the gap
  abbrev PassesHere : Label → ℕ → Type 0
  PassesHere label g = (t : ℕ) × (k : ℕ) × (gap_number p.threads t k ≡ Some g) × (passes_at (state_of s) label t k ≡ true)

  at_place : (t : ℕ) (ws : List Pending) → is_empty ws ≡ false → ((t == t) && (((core_at s.cores t).local.place == (core_at s.cores t).local.place) && not (is_empty ws))) ≡ true
  at_place t ws e = rw (eq-eqb t t refl, eq-eqb (core_at s.cores t).local.place (core_at s.cores t).local.place refl, e) refl

  unsettled : (b : Bool) (o : Option ℕ) (g : ℕ) → (if b then None else o) ≡ Some g → (b ≡ false) × (o ≡ Some g)
  unsettled true o g e = absurd cc
  unsettled false o g e = (refl, e)

  to_here : (label : Label) (g : ℕ) → passed_gap p.threads s.cores label ≡ Some g → PassesHere label g
  to_here (Flush t) g e = absurd cc
  to_here (Exec t) g e =
      let (w, n) = unsettled (is_empty (core_at s.cores t).buffer) (gap_number p.threads t (core_at s.cores t).local.place) g e in
      (t, (core_at s.cores t).local.place, n, at_place t (core_at s.cores t).buffer w)

  from_here : (label : Label) (g : ℕ) → PassesHere label g → passed_gap p.threads s.cores label ≡ Some g
  from_here (Flush u) g (t, k, n, e) = absurd cc
  from_here (Exec u) g (t, k, n, e) =
      let (a, b) = and_cases (u == t) (((core_at s.cores t).local.place == k) && not (is_empty (core_at s.cores t).buffer)) e in
      let (q, r) = and_cases ((core_at s.cores t).local.place == k) (not (is_empty (core_at s.cores t).buffer)) b in
      let w : is_empty (core_at s.cores t).buffer ≡ false = not-true _ r in
      let ut : u ≡ t = eqb-true u t a in
      let pk : (core_at s.cores t).local.place ≡ k = eqb-true _ k q in
      ap (λ x. gap_passed_by p.threads x (core_at s.cores x)) ut ∙ ap (λ z. if z then None else gap_number p.threads t (core_at s.cores t).local.place) w ∙ ap (gap_number p.threads t) pk ∙ n

  -- the set with the gap of one more step
  pub passed_on : (mode : Machine) (labels : List Label) (n : ℕ) (d : Label) (gaps : set.FinSet nat_cmp) (o : Option ℕ) → n < length labels → run p mode (start p) (take n labels) ≡ Some (state_of s) →
      ArePassed p mode (take n labels) gaps → o ≡ passed_gap p.threads s.cores (get_or labels n d) → ArePassed p mode (take (n + 1) labels) (option_map_or (set.insert gaps) o gaps)
  passed_on mode labels n d gaps o h reached so_far is g = (forth, back)
    where
      more : (t k : ℕ) → passes p mode (start p) (take (n + 1) labels) t k ≡ (passes p mode (start p) (take n labels) t k || passes_at (state_of s) (get_or labels n d) t k)
      more t k = rw (take_more labels n d h) (passes_more p mode (take n labels) (get_or labels n d) (start p) (state_of s) t k reached)

      forth : set.contains (option_map_or (set.insert gaps) o gaps) g ≡ true → Passes p mode (start p) (take (n + 1) labels) g
      forth e = elim (or_cases (set.contains gaps g) (is_gap o g) (sym (with_gap_contains gaps o g) ∙ e)) [
        | inl a ↦ (let (t, k, q, b) = (so_far g).0 a in (t, k, q, more t k ∙ or_before _ _ b))
        | inr a ↦ (let (t, k, q, b) = to_here (get_or labels n d) g (sym is ∙ some_gap o g a) in (t, k, q, more t k ∙ or_after _ _ b))
      ]

      back : Passes p mode (start p) (take (n + 1) labels) g → set.contains (option_map_or (set.insert gaps) o gaps) g ≡ true
      back (t, k, q, e) = with_gap_contains gaps o g ∙ elim (or_cases _ _ (sym (more t k) ∙ e)) [
        | inl a ↦ or_before _ _ ((so_far g).1 (t, k, q, a))
        | inr a ↦ or_after _ _ (gap_some o g (is ∙ from_here (get_or labels n d) g (t, k, q, a)))
      ]

pub none_passed : (p : Listing) (mode : Machine) (gaps : set.FinSet nat_cmp) → gaps ≡ set.empty → ArePassed p mode [] gaps
none_passed p mode gaps is g = ((λ e. absurd (let z : false ≡ true = sym (ap (λ s. set.contains s g) is ∙ set.contains-empty nat_cmp g) ∙ e in cc)), (λ x. absurd (let z : false ≡ true = x.3 in cc)))

pub match_some : (o : Option ℕ) (P : Type 0) (Q : ℕ → Type 0) → MatchOption o P Q → is_some o ≡ true → (t : ℕ) × Q t
match_some None P Q h e = absurd cc
match_some (Some t) P Q h e = (t, h)

pub match_none : (o : Option ℕ) (P : Type 0) (Q : ℕ → Type 0) → MatchOption o P Q → is_some o ≡ false → P
match_none None P Q h e = h
match_none (Some t) P Q h e = absurd cc

-- in sequential mode no step passes a gap
seq_passes : (p : Listing) (labels : List Label) (s : State) → ((t : ℕ) → s.buffers t ≡ []) → (t k : ℕ) → passes p SequentialMachine s labels t k ≡ false
seq_passes p [] s none t k = refl
seq_passes p (Flush u ∷ labels) s none t k = refl
seq_passes p (Exec u ∷ labels) s none t k =
    or_from (passes_at s (Exec u) t k) _ (here (u == t) ((s.locals t).place == k) (s.buffers t) (none t))
    (by_action (λ z h. seq_passes p labels z h t k) (action p.threads u (s.locals u)))
  where
    here : (a b : Bool) (ws : List Pending) → ws ≡ [] → (a && (b && not (is_empty ws))) ≡ false
    here true true ws e = ap (λ z. not (is_empty z)) e
    here a b ws e = refl

    by_action : ((z : State) → ((t : ℕ) → z.buffers t ≡ []) → passes p SequentialMachine z labels t k ≡ false) → (a : Action) → from_some (λ next. passes p SequentialMachine next labels t k) (direct s u a) ≡ false
    by_action rest Stop = refl
    by_action rest a = rest _ none

pub none_sequential : (p : Listing) (gaps : set.FinSet nat_cmp) (model : Model) (labels : List Label) (passed : set.FinSet nat_cmp) → ArePassed p (machine_of_model p gaps model) labels passed →
    model ≡ models.Sequential → (gap : ℕ) → set.contains passed gap ≡ false
none_sequential p gaps model labels passed are e gap =
    let in_sequential : ArePassed p SequentialMachine labels passed = subst (λ m. ArePassed p (machine_of_model p gaps m) labels passed) e are in
    elim (cases_Bool (set.contains passed gap)) [
      | inl q ↦ (let (t, k, n, is) = (in_sequential gap).0 q in q ∙ (sym is ∙ seq_passes p labels (start p) (λ t. refl) t k))
      | inr q ↦ q
    ]
