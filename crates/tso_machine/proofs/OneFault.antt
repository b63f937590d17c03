-- Two faults that both fit a replay are the same.
use Rattle.tso_machine.proofs.Vocabulary.{◌≡◌, ◌≢◌, ℕ, zero, suc, ◌+◌, ◌-◌, ◌<◌, ◌≤◌, take, length, get_or, Bool, true, false, ◌&&◌, List, [], ◌∷◌, Option, Some, None, option_and_then, refl, ap, sym, ◌∙◌, subst, inl, inr, arith, slice_get, nat_lt, nat_le}
use Rattle.tso_machine.proofs.Vocabulary.{if◌then◌else◌, option_map_or, cases_lt, nat_tests, slice_get-get_or, SetOfGaps, Thread, Listing, Local, Stop, act, gaps_in, Label, Exec, Flush, Pending, Model, Cause, NoSuchThread, AtEnd, BufferEmpty, FenceWaits}
use Rattle.tso_machine.proofs.Vocabulary.{Refused, ReplayFault, Machine, State, start, step, run, machine_of_model, code_of, action, gap_count, gap_number, waits, IsFenced, Applies, Stops, EndsEarly, ReplayFaultIs, fault_of}
use Rattle.std.specs.FinSet as set
use Rattle.tso_program.specs.declared.instruction.Instr.{Instr, TheVariants.Fence}
use Rattle.tso_machine.specs.declared.label.Model.TheVariants as models
use Rattle.tso_machine.specs.declared.replaying.ReplayFault.TheVariants as fault
use Rattle.tso_machine.proofs.{FencedActions.never_stops, Runs.no_stores, Refused.run_keeps, Refused.applies_none, Refused.stops_none}

past_end : (threads : List Thread) (t k : ℕ) → length (code_of threads t) ≤ k → gap_number threads t k ≡ None
past_end threads t k h = let out : nat_lt k (length (code_of threads t)) ≡ false = grind (arith, nat_tests) in by_test (nat_le 1 k) (nat_lt k (length (code_of threads t))) (gap_count (take t threads) + (k - 1)) out
  where
    by_test : (a b : Bool) (n : ℕ) → b ≡ false → (if a && b then Some n else None) ≡ None
    by_test true true n e = absurd cc
    by_test a b n e = refl

-- no gap of a set follows a thread's last instruction
no_gap : (p : Listing) (gaps : SetOfGaps) (t : ℕ) (s : Local) → action p.threads t s ≡ Stop → gaps_in p gaps t s.place ≡ false
no_gap p gaps t s stop = elim (cases_lt s.place (length (code_of p.threads t))) [
  | inl h ↦
      let x : Instr = get_or (code_of p.threads t) s.place Fence in
      absurd (never_stops x s (ap (λ o. act o s) (sym (slice_get-get_or (code_of p.threads t) s.place Fence h)) ∙ stop))
  | inr h ↦ ap (λ o. option_map_or (set.contains gaps) o false) (past_end p.threads t s.place h)
]

-- two causes that both apply to a step of a replay are the same
module _ (p : Listing) (gaps : SetOfGaps) (model : Model) where
  abbrev mode : Machine
  mode = machine_of_model p gaps model

  module _ (s : State) where
    no_thread_at_end : (label : Label) → Applies p mode s NoSuchThread label → Applies p mode s AtEnd label → ⊥
    no_thread_at_end (Exec t) a b = omega (arith, b.0)
    no_thread_at_end (Flush t) a b = b

    no_thread_no_store : (label : Label) → Applies p mode s NoSuchThread label → Applies p mode s BufferEmpty label → ⊥
    no_thread_no_store (Exec t) a b = b
    no_thread_no_store (Flush t) a b = omega (arith, b.0)

    end_no_store : (label : Label) → Applies p mode s AtEnd label → Applies p mode s BufferEmpty label → ⊥
    end_no_store (Exec t) a b = b
    end_no_store (Flush t) a b = a

    no_store_held : (label : Label) → Applies p mode s BufferEmpty label → Applies p mode s FenceWaits label → ⊥
    no_store_held (Exec t) a b = a
    no_store_held (Flush t) a b = b

    end_held : (label : Label) → Applies p mode s AtEnd label → Applies p mode s FenceWaits label → ⊥
    end_held (Flush t) a b = a
    end_held (Exec t) a b = elim b.1 [ inl e ↦ (let z : false ≡ true = sym (ap waits a.1) ∙ e in cc) | inr e ↦ at_gap model e ]
      where
        at_gap : (m : Model) → IsFenced (machine_of_model p gaps m) t (s.locals t).place → ⊥
        at_gap models.Sequential e = e
        at_gap models.Buffered e = let z : false ≡ true = sym (no_gap p gaps t (s.locals t) a.1) ∙ e in cc

  no_thread_held : (m : Model) (labels : List Label) (s : State) (label : Label) → run p (machine_of_model p gaps m) (start p) labels ≡ Some s →
      Applies p (machine_of_model p gaps m) s NoSuchThread label → Applies p (machine_of_model p gaps m) s FenceWaits label → ⊥
  no_thread_held m labels s (Flush t) r a b = b
  no_thread_held models.Sequential labels s (Exec t) r a b = b.0 (ap (λ (f : ℕ → List Pending). f t) (no_stores p labels (start p) s r))
  no_thread_held models.Buffered labels s (Exec t) r a b = b.0 (run_keeps p t a (gaps_in p gaps) labels (start p) s refl r)

  one_cause : (labels : List Label) (s : State) (label : Label) (cause other : Cause) → run p mode (start p) labels ≡ Some s →
      Applies p mode s cause label → Applies p mode s other label → cause ≡ other
  one_cause labels s label NoSuchThread AtEnd r a b = absurd (no_thread_at_end s label a b)
  one_cause labels s label NoSuchThread BufferEmpty r a b = absurd (no_thread_no_store s label a b)
  one_cause labels s label NoSuchThread FenceWaits r a b = absurd (no_thread_held model labels s label r a b)
  one_cause labels s label AtEnd NoSuchThread r a b = absurd (no_thread_at_end s label b a)
  one_cause labels s label AtEnd BufferEmpty r a b = absurd (end_no_store s label a b)
  one_cause labels s label AtEnd FenceWaits r a b = absurd (end_held s label a b)
  one_cause labels s label BufferEmpty NoSuchThread r a b = absurd (no_thread_no_store s label b a)
  one_cause labels s label BufferEmpty AtEnd r a b = absurd (end_no_store s label b a)
  one_cause labels s label BufferEmpty FenceWaits r a b = absurd (no_store_held s label a b)
  one_cause labels s label FenceWaits NoSuchThread r a b = absurd (no_thread_held model labels s label r b a)
  one_cause labels s label FenceWaits AtEnd r a b = absurd (end_held s label b a)
  one_cause labels s label FenceWaits BufferEmpty r a b = absurd (no_store_held s label b a)
  one_cause labels s label cause other r a b = refl

-- no step follows one that isn't possible
not_after : (p : Listing) (mode : Machine) (labels : List Label) (n m : ℕ) (s before after : State) (label : Label) → run p mode s (take n labels) ≡ Some before → slice_get labels n ≡ Some label →
    step p mode before label ≡ None → run p mode s (take m labels) ≡ Some after → n < m → ⊥
not_after p mode [] n m s before after label r g e q lt = cc
not_after p mode (x ∷ xs) n zero s before after label r g e q lt = omega arith
not_after p mode (x ∷ xs) zero (suc m) s before after label r g e q lt =
    let same : s ≡ before = cc in
    let first : x ≡ label = cc in
    let none : step p mode s x ≡ None = (λ i. step p mode (same i) (first i)) ∙ e in
    let z : None ≡ Some after = sym (ap (option_and_then (λ z. run p mode z (take m xs))) none) ∙ q in cc
not_after p mode (x ∷ xs) (suc n) (suc m) s before after label r g e q lt = go (step p mode s x) r q (λ z r q. not_after p mode xs n m z before after label r g e q (omega arith))
  where
    go : (o : Option State) → option_and_then (λ z. run p mode z (take n xs)) o ≡ Some before → option_and_then (λ z. run p mode z (take m xs)) o ≡ Some after →
        ((z : State) → run p mode z (take n xs) ≡ Some before → run p mode z (take m xs) ≡ Some after → ⊥) → ⊥
    go None r q rest = cc
    go (Some z) r q rest = rest z r q

module _ (p : Listing) (gaps : SetOfGaps) (model : Model) (labels : List Label) where
  abbrev IsStop : ℕ → Cause → Type 0
  IsStop n cause = Stops p (machine_of_model p gaps model) labels n cause

  impossible : (n : ℕ) (cause : Cause) (s : IsStop n cause) → step p (machine_of_model p gaps model) s.before s.label ≡ None
  impossible n cause s = applies_none p (machine_of_model p gaps model) (take n labels) s.before cause s.label s.reached s.why

  same_step : (n m : ℕ) (cause other : Cause) → IsStop n cause → IsStop m other → n ≡ m
  same_step n m cause other a b = elim (cases_lt n m) [
    | inl h ↦ absurd (not_after p (machine_of_model p gaps model) labels n m (start p) a.before b.before a.label a.reached a.there (impossible n cause a) b.reached h)
    | inr h ↦ elim (cases_lt m n) [
      | inl g ↦ absurd (not_after p (machine_of_model p gaps model) labels m n (start p) b.before a.before b.label b.reached b.there (impossible m other b) a.reached g)
      | inr g ↦ omega arith
    ]
  ]

  same_cause : (n : ℕ) (cause other : Cause) → IsStop n cause → IsStop n other → cause ≡ other
  same_cause n cause other a b =
      let state : b.before ≡ a.before = (let z : Some b.before ≡ Some a.before = sym b.reached ∙ a.reached in cc) in
      let label : b.label ≡ a.label = (let z : Some b.label ≡ Some a.label = sym b.there ∙ a.there in cc) in
      let why : Applies p (machine_of_model p gaps model) a.before other a.label = subst (λ (x : State × Label). Applies p (machine_of_model p gaps model) x.0 other x.1) (λ i. (state i, label i)) b.why in
      one_cause p gaps model (take n labels) a.before a.label cause other a.reached a.why why

  not_early : (n m : ℕ) (cause : Cause) → IsStop n cause → EndsEarly p (machine_of_model p gaps model) labels m → ⊥
  not_early n m cause a b = let z : None ≡ Some b.last = sym (stops_none p (machine_of_model p gaps model) labels n cause a) ∙ b.reached in cc

  -- a fault that fits and is not out of memory: some step is impossible, or some thread is unfinished
  data Told (why : ReplayFault) : Type 0 where
    stopped : (n : ℕ) (cause : Cause) → why ≡ fault_of (Refused cause) n → IsStop n cause → Told why
    early : (n : ℕ) → why ≡ fault.NotEnded n → EndsEarly p (machine_of_model p gaps model) labels n → Told why

  told : (why : ReplayFault) → why ≢ fault.OutOfMemory → ReplayFaultIs p (machine_of_model p gaps model) labels why → Told why
  told (fault.NoSuchThread n) known f = stopped n NoSuchThread refl f
  told (fault.AtEnd n) known f = stopped n AtEnd refl f
  told (fault.BufferEmpty n) known f = stopped n BufferEmpty refl f
  told (fault.FenceWaits n) known f = stopped n FenceWaits refl f
  told (fault.NotEnded n) known f = early n refl f
  told fault.OutOfMemory known f = absurd (known refl)

  same_told : (why other : ReplayFault) → Told why → Told other → why ≡ other
  same_told why other (stopped n cause e a) (stopped m cause' e' b) =
      let step : n ≡ m = same_step n m cause cause' a b in
      let why : cause ≡ cause' = same_cause m cause cause' (subst (λ k. IsStop k cause) step a) b in
      e ∙ (λ i. fault_of (Refused (why i)) (step i)) ∙ sym e'
  same_told why other (stopped n cause e a) (early m e' b) = absurd (not_early n m cause a b)
  same_told why other (early n e a) (stopped m cause' e' b) = absurd (not_early m n cause' b a)
  same_told why other (early n e a) (early m e' b) = e ∙ ap fault.NotEnded (a.all ∙ sym b.all) ∙ sym e'

pub one_fault : (p : Listing) (gaps : SetOfGaps) (model : Model) (labels : List Label) (why other : ReplayFault) → why ≢ fault.OutOfMemory → other ≢ fault.OutOfMemory →
    ReplayFaultIs p (machine_of_model p gaps model) labels why → ReplayFaultIs p (machine_of_model p gaps model) labels other → why ≡ other
one_fault p gaps model labels why other known known_too fits also =
    same_told p gaps model labels why other (told p gaps model labels why known fits) (told p gaps model labels other known_too also)
