-- The listed outcomes are those of the machine's runs.
use Rattle.the_answer.proofs.Vocabulary.{◌≡◌, ℕ, zero, suc, ◌<◌, ◌≤◌, Bool, true, false, ◌&&◌, List, [], ◌∷◌, length, Option, Some, None, option_and_then, Contains, flat_map, cond, ◌↔◌, refl, ap, sym, ◌∙◌, subst, inl, inr, arith, option_map_or, list_all}
use Rattle.the_answer.proofs.Vocabulary.{cases_lt, Contains-append_left, Contains-append_right, Contains-append_cases, Listing, Outcome, action, show, JumpForward, Label, Exec, Flush, Pending, Machine, State, start, step, run, is_empty, outcome_at, HasEnded}
use Rattle.the_answer.proofs.Vocabulary.{Allows, is_stop, has_ended, threads_of, labels_to_try, outcomes_here, outcomes_within, most_labels, outcomes_of, OutcomesAreListed, none_here, first_or_later, first_is_here, later_is_here, mapped}
use Rattle.std.proofs.lemmas.Option.{same_Some}
use Rattle.tso_program.specs.declared.action.Action.{Action, TheVariants.Stop}
use Rattle.tso_machine.proofs.Runs.{no_action}
use Rattle.the_answer.proofs.Lists.{in_flat_map, below_is_here, from_flat_map, both, each_passes, all_pass, from_mapped}
use Rattle.the_answer.proofs.StepsOfThreads.{NoOtherThread, thread_of, of_program, bounded}

-- what the tests of an action and of a buffer say
stop_is : (a : Action) → is_stop a ≡ true → a ≡ Stop
stop_is Stop e = refl
stop_is a e = absurd cc

empty_is : (ws : List Pending) → is_empty ws ≡ true → ws ≡ []
empty_is [] e = refl
empty_is (w ∷ ws) e = absurd cc

module _ (p : Listing) (s : State) where
  -- each thread has ended where the test says so
  each_ended : NoOtherThread p s → list_all (has_ended p s) (threads_of p) ≡ true → HasEnded p s
  each_ended none all t = elim (cases_lt t (length p.threads)) [
    | inl inside ↦
        let parts = both (is_stop (action p.threads t (s.locals t))) (is_empty (s.buffers t)) (each_passes (has_ended p s) (threads_of p) t all (below_is_here (length p.threads) t inside)) in
        (stop_is (action p.threads t (s.locals t)) parts.0, empty_is (s.buffers t) parts.1)
    | inr past ↦ (no_action p t (s.locals t) past, none t past)
  ]

  -- and only there
  ended_passes : HasEnded p s → list_all (has_ended p s) (threads_of p) ≡ true
  ended_passes ended = all_pass (has_ended p s) (threads_of p) (λ t here. λ i. is_stop ((ended t).0 i) && is_empty ((ended t).1 i))

  -- an outcome that is listed here is that of the state, where each thread has ended
  from_here : (o : Outcome) → NoOtherThread p s → Contains (outcomes_here p s) o → HasEnded p s × (o ≡ outcome_at p s)
  from_here o none here = by_test (list_all (has_ended p s) (threads_of p)) refl here
    where
      by_test : (b : Bool) → list_all (has_ended p s) (threads_of p) ≡ b → Contains (cond b (outcome_at p s ∷ []) []) o → HasEnded p s × (o ≡ outcome_at p s)
      by_test true e here = (each_ended none e, elim (first_or_later (outcome_at p s) [] o here) [ inl is ↦ sym is | inr later ↦ absurd (none_here o later) ])
      by_test false e here = absurd (none_here o here)

  is_here : HasEnded p s → Contains (outcomes_here p s) (outcome_at p s)
  is_here ended = subst (λ (b : Bool). Contains (cond b (outcome_at p s ∷ []) []) (outcome_at p s)) (sym (ended_passes ended)) (first_is_here (outcome_at p s) [])

-- a thread's labels are among those that are tried
label_of_thread : (l : Label) → Contains (Exec (thread_of l) ∷ Flush (thread_of l) ∷ []) l
label_of_thread (Exec t) = first_is_here (Exec t) (Flush t ∷ [])
label_of_thread (Flush t) = later_is_here (Exec t) (Flush t ∷ []) (Flush t) (first_is_here (Flush t) [])

label_is_tried : (p : Listing) (l : Label) → thread_of l < length p.threads → Contains (labels_to_try p) l
label_is_tried p l inside =
    in_flat_map (λ t. Exec t ∷ Flush t ∷ []) (threads_of p) (thread_of l) l (below_is_here (length p.threads) (thread_of l) inside) (label_of_thread l)

module _ (p : Listing) (mode : Machine) where
  -- a run from a state
  abbrev RunsTo : State → Outcome → Type 0
  RunsTo s o = (labels : List Label) × (last : State) × (run p mode s labels ≡ Some last) × HasEnded p last × (o ≡ outcome_at p last)

  no_step_more : (s : State) (o : Outcome) → NoOtherThread p s → Contains (outcomes_here p s) o → RunsTo s o
  no_step_more s o none here = let (ended, is) = from_here p s o none here in ([], s, refl, ended, is)

  -- what is listed has a run
  has_run : (n : ℕ) (s : State) (o : Outcome) → NoOtherThread p s → Contains (outcomes_within p mode n s) o → RunsTo s o
  has_run zero s o none here = no_step_more s o none here
  has_run (suc n) s o none here = elim (Contains-append_cases (outcomes_here p s) (flat_map (λ l. option_map_or (outcomes_within p mode n) (step p mode s l) []) (labels_to_try p)) o here) [
    | inl now ↦ no_step_more s o none now
    | inr more ↦
        let (l, tried, there) = from_flat_map (λ l. option_map_or (outcomes_within p mode n) (step p mode s l) []) (labels_to_try p) o more in
        after l (step p mode s l) refl there (λ z. has_run n z o)
  ]
    where
      after : (l : Label) (next : Option State) → step p mode s l ≡ next → Contains (option_map_or (outcomes_within p mode n) next []) o →
          ((z : State) → NoOtherThread p z → Contains (outcomes_within p mode n z) o → RunsTo z o) → RunsTo s o
      after l None e there ih = absurd (none_here o there)
      after l (Some z) e there ih =
          let (labels, last, leads, ended, is) = ih z (of_program p mode s z l none e).no_other there in
          (l ∷ labels, last, ap (option_and_then (λ next. run p mode next labels)) e ∙ leads, ended, is)

  -- what ends here is listed, whatever the number of steps
  ends_here : (n : ℕ) (s : State) → HasEnded p s → Contains (outcomes_within p mode n s) (outcome_at p s)
  ends_here zero s ended = is_here p s ended
  ends_here (suc n) s ended = Contains-append_left (outcomes_here p s) _ (outcome_at p s) (is_here p s ended)

  -- what a step leads to is listed
  leads_there : (n : ℕ) (s z : State) (l : Label) (o : Outcome) → thread_of l < length p.threads → step p mode s l ≡ Some z → Contains (outcomes_within p mode n z) o → Contains (outcomes_within p mode (suc n) s) o
  leads_there n s z l o inside e there =
      Contains-append_right (outcomes_here p s) _ o
      (in_flat_map (λ l. option_map_or (outcomes_within p mode n) (step p mode s l) []) (labels_to_try p) l o (label_is_tried p l inside)
      (subst (λ (next : Option State). Contains (option_map_or (outcomes_within p mode n) next []) o) (sym e) there))

  -- a run's outcome is listed where it has no more labels than that
  is_listed : (labels : List Label) (n : ℕ) (s last : State) → NoOtherThread p s → length labels ≤ n → run p mode s labels ≡ Some last → HasEnded p last → Contains (outcomes_within p mode n s) (outcome_at p last)
  is_listed [] n s last none enough e ended =
      let q : s ≡ last = same_Some s last e in
      subst (λ (z : State). Contains (outcomes_within p mode n s) (outcome_at p z)) q (ends_here n s (subst (HasEnded p) (sym q) ended))
  is_listed (l ∷ labels) zero s last none enough e ended = absurd (omega arith)
  is_listed (l ∷ labels) (suc n) s last none enough e ended = after (step p mode s l) refl e (λ z. is_listed labels n z last)
    where
      after : (next : Option State) → step p mode s l ≡ next → option_and_then (λ z. run p mode z labels) next ≡ Some last →
          ((z : State) → NoOtherThread p z → length labels ≤ n → run p mode z labels ≡ Some last → HasEnded p last → Contains (outcomes_within p mode n z) (outcome_at p last)) →
          Contains (outcomes_within p mode (suc n) s) (outcome_at p last)
      after None q r ih = absurd cc
      after (Some z) q r ih =
          let does = of_program p mode s z l none q in
          leads_there n s z l (outcome_at p last) does.inside q (ih z does.no_other (omega arith) r ended)

-- the outcomes of the machine, whole
abbrev whole_outcomes : Listing → Machine → List Outcome
whole_outcomes p mode = outcomes_within p mode (most_labels p) (start p)

-- both ways
whole_listed : (p : Listing) (mode : Machine) (o : Outcome) → JumpForward p.threads → Contains (whole_outcomes p mode) o ↔ Allows p mode o
whole_listed p mode o forward = (
  (λ here. let (labels, last, leads, ended, is) = has_run p mode (most_labels p) (start p) o (λ t past. refl) here in (labels, (last, leads, ended, is))),
  (λ (labels, (last, leads, ended, is)).
      subst (λ (q : Outcome). Contains (whole_outcomes p mode) q) (sym is)
      (is_listed p mode labels (most_labels p) (start p) last (λ t past. refl) (bounded p mode labels last forward leads) leads ended)),
)

-- what is shown of each run's outcome is listed
pub outcomes_listed : OutcomesAreListed
unfolding outcomes_of
outcomes_listed q mode o forward = (
  (λ here.
      let (whole, there, is) = from_mapped (show q.shown) (whole_outcomes q.program mode) o here in
      let (labels, is_run) = (whole_listed q.program mode whole forward).0 there in
      (labels, (whole, is_run, is))),
  (λ (labels, (whole, is_run, is)).
      subst (λ (x : Outcome). Contains (outcomes_of q mode) x) (sym is)
      (mapped (show q.shown) (whole_outcomes q.program mode) whole ((whole_listed q.program mode whole forward).1 (labels, is_run)))),
)
