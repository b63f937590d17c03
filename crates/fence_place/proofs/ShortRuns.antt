-- A run of a program within the limits has no more labels than a text can hold, and each of them is of a thread that is there.
use Rattle.fence_place.proofs.Vocabulary.{◌≡◌, ℕ, ◌+◌, ◌*◌, ◌<◌, ◌≤◌, List, [], ◌∷◌, ◌++◌, Option, Some, None, option_and_then, length, refl, sym, ap, ◌∙◌, subst, inl, inr, arith, cases_lt, AllByRecursion, same_Some, Listing, IsWithinLimits, Label, Gaps}
use Rattle.fence_place.proofs.Vocabulary.{Machine, SequentialMachine, StoreBufferMachine, State, put, direct, buffered, past_gap, step, run, start, IsRun}
use Rattle.tso_program.specs.{declared.outcome.Outcome.Outcome, declared.action.Action.TheVariants.Stop, declared.limits.TheConstants.MAX_THREADS, declared.limits.TheConstants.MAX_INSTRUCTIONS}
use Rattle.tso_program.specs.Listings.{action}
use Rattle.tso_machine.specs.{declared.label.Label.TheVariants.Exec, declared.label.Label.TheVariants.Flush, RunTexts.IsLabel}
use Rattle.tso_machine.proofs.Runs.{no_action, no_stores}
use Rattle.tso_machine.proofs.{ChangedAt.put_other, StepCases.exec_by, StepCases.flush_by}
use Rattle.tso_machine.proofs.RunsAreShort.{every_run_is_short}
use Rattle.cert_forest.specs.Limits as limits

abbrev no_step : State → Option State
no_step s = None

none_then : (o : Option State) → option_and_then no_step o ≡ None
none_then None = refl
none_then (Some x) = refl

module _ (p : Listing) where
  -- no store of a thread that is not there waits
  abbrev Idle : State → Type 0
  Idle s = (t : ℕ) → length p.threads ≤ t → s.buffers t ≡ []

  -- thread t is there, and still no store of another one waits
  abbrev IsOf : State → ℕ → Type 0
  IsOf z t = (t < length p.threads) × Idle z

  -- no thread but t has changed its buffer
  same_idle : (s z : State) (t : ℕ) → t < length p.threads → Idle s → ((u : ℕ) → (u ≡ t → ⊥) → z.buffers u ≡ s.buffers u) → IsOf z t
  same_idle s z t there idle others = (there, λ u high. others u (λ q. omega arith) ∙ idle u high)

  direct_step : (s z : State) (t : ℕ) → Idle s → step p SequentialMachine s (Exec t) ≡ Some z → IsOf z t
  direct_step s z t idle e = (there, λ u high. ap (λ b. b u) (no_stores p (Exec t ∷ []) s z (ap (option_and_then (λ next. Some next)) e)) ∙ idle u high)
    where
      there : t < length p.threads
      there = elim (cases_lt t (length p.threads)) [
        | inl low ↦ low
        | inr high ↦ (let none : None ≡ Some z = sym (ap (direct s t) (no_action p t (s.locals t) (omega arith))) ∙ e in absurd cc)
      ]

  buffered_step : (gaps : Gaps) (s z : State) (t : ℕ) → Idle s → step p (StoreBufferMachine gaps) s (Exec t) ≡ Some z → IsOf z t
  buffered_step gaps s z t idle e = exec_by z (λ next. Some next) p gaps s t (IsOf z t) (ap (option_and_then (λ next. Some next)) e)
      (λ next a g r. subst (λ y. IsOf y t) (same_Some _ z r) (there, idle))
      (λ next a g r. subst (λ y. IsOf y t) (same_Some _ z r) (there, idle))
      (λ l to next a g r. subst (λ y. IsOf y t) (same_Some _ z r) (there, idle))
      (λ l v next a g r. let ws = s.buffers t ++ record { location = l; value = v } ∷ [] in
      subst (λ y. IsOf y t) (same_Some _ z r) (same_idle s (record s { locals = put s.locals t next; buffers = put s.buffers t ws }) t there idle (λ u q. put_other s.buffers t ws u q)))
      (λ l v to next a g r. subst (λ y. IsOf y t) (same_Some _ z r) (there, idle))
    where
      gone : action p.threads t (s.locals t) ≡ Stop → ⊥
      gone stop =
          let here = past_gap (gaps t (s.locals t).place) (s.buffers t) s in
          let none : None ≡ Some z = sym (ap (λ a. option_and_then (λ s'. buffered s' t a) here) stop ∙ none_then here) ∙ e in
          absurd cc

      there : t < length p.threads
      there = elim (cases_lt t (length p.threads)) [ inl low ↦ low | inr high ↦ absurd (gone (no_action p t (s.locals t) (omega arith))) ]

  flush_step : (gaps : Gaps) (s z : State) (t : ℕ) → Idle s → step p (StoreBufferMachine gaps) s (Flush t) ≡ Some z → IsOf z t
  flush_step gaps s z t idle e = flush_by z (λ next. Some next) p gaps s t (IsOf z t) (ap (option_and_then (λ next. Some next)) e)
      (λ w ws b r. subst (λ y. IsOf y t) (same_Some _ z r) (same_idle s (record s { buffers = put s.buffers t ws; memory = put s.memory w.location w.value }) t (there w ws b) idle (λ u q. put_other s.buffers t ws u q)))
    where
      there : (w : _) (ws : List _) → s.buffers t ≡ w ∷ ws → t < length p.threads
      there w ws b = elim (cases_lt t (length p.threads)) [ inl low ↦ low | inr high ↦ (let none : [] ≡ w ∷ ws = sym (idle t (omega arith)) ∙ b in absurd cc) ]

  module _ (few : length p.threads ≤ MAX_THREADS) where
    abbrev IsNamed : State → Label → Type 0
    IsNamed z l = IsLabel l × Idle z

    low : (t : ℕ) → t < length p.threads → t < 256
    low t h = omega arith

    one_step : (mode : Machine) (s z : State) (l : Label) → Idle s → step p mode s l ≡ Some z → IsNamed z l
    one_step SequentialMachine s z (Exec t) idle e = let h = direct_step s z t idle e in (low t h.0, h.1)
    one_step SequentialMachine s z (Flush t) idle e = absurd cc
    one_step (StoreBufferMachine gaps) s z (Exec t) idle e = let h = buffered_step gaps s z t idle e in (low t h.0, h.1)
    one_step (StoreBufferMachine gaps) s z (Flush t) idle e = let h = flush_step gaps s z t idle e in (low t h.0, h.1)

    named : (mode : Machine) (labels : List Label) (s last : State) → Idle s → run p mode s labels ≡ Some last → AllByRecursion IsLabel labels
    named mode [] s last idle r = tt
    named mode (l ∷ ls) s last idle r = by_step (step p mode s l) refl r (λ z. named mode ls z last)
      where
        by_step : (o : Option State) → step p mode s l ≡ o → option_and_then (λ next. run p mode next ls) o ≡ Some last →
            ((z : State) → Idle z → run p mode z ls ≡ Some last → AllByRecursion IsLabel ls) → AllByRecursion IsLabel (l ∷ ls)
        by_step None e r others = absurd cc
        by_step (Some z) e r others = let one = one_step mode s z l idle e in (one.0, others z one.1 r)

pub short_run : (p : Listing) (mode : Machine) (labels : List Label) (o : Outcome) → IsWithinLimits p.threads p.memory → IsRun p mode labels o → limits.IsWrittenRun labels
short_run p mode labels o within is =
    let few : length p.threads ≤ MAX_THREADS = within.shared.few_threads in
    let long : length labels ≤ length p.threads * (MAX_INSTRUCTIONS + MAX_INSTRUCTIONS) = every_run_is_short p mode labels o MAX_INSTRUCTIONS within.shared.forward_jumps within.shared.short_threads is in
    (omega arith, named p few mode labels (start p) is.0 (λ t h. refl) is.1)
