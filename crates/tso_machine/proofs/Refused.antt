-- No fault but out of memory fits a run, and labels have one outcome.
use Rattle.tso_machine.proofs.Vocabulary.{◌≡◌, ◌≢◌, ◌⊎◌, ℕ, zero, suc, ◌≤◌, take, length, Bool, true, false, List, [], ◌∷◌, ◌++◌, Option, Some, None, option_and_then, refl, ap, sym, ◌∙◌, subst, inl, inr, slice_get, cases_eq, Outcome, Label, Exec, Flush}
use Rattle.tso_machine.proofs.Vocabulary.{Pending, Cause, NoSuchThread, AtEnd, BufferEmpty, FenceWaits, ReplayFault, Listing, Action, Stop, Wait, Write, Swap, action, waits, Applies, Stops, EndsEarly, ReplayFaultIs, put, Machine, SequentialMachine}
use Rattle.tso_machine.proofs.Vocabulary.{StoreBufferMachine, State, start, step, run, buffered, direct, flushed, past_gap, when_empty, HasEnded, outcome_at, IsRun}
use Rattle.tso_program.specs.Shown.{show}
use Rattle.tso_program.specs.declared.question.Question.{Question}
use Rattle.tso_machine.specs.Outcomes.{IsShownRun}
use Rattle.tso_machine.specs.declared.replaying.ReplayFault.TheVariants as fault
use Rattle.tso_machine.proofs.{Link.put_other, Runs.no_stores, Runs.no_action}

none_then : (o : Option State) → (let f : State → Option State = λ s. None in option_and_then f o ≡ None)
none_then (Some s) = refl
none_then None = refl

stop_none : (p : Listing) (mode : Machine) (s : State) (t : ℕ) → action p.threads t (s.locals t) ≡ Stop → step p mode s (Exec t) ≡ None
stop_none p SequentialMachine s t e = ap (direct s t) e
stop_none p (StoreBufferMachine gaps) s t e =
    ap (λ a. option_and_then (λ z. buffered z t a) (past_gap (gaps t (s.locals t).place) (s.buffers t) s)) e
    ∙ none_then (past_gap (gaps t (s.locals t).place) (s.buffers t) s)

flush_none : (p : Listing) (mode : Machine) (s : State) (t : ℕ) → s.buffers t ≡ [] → step p mode s (Flush t) ≡ None
flush_none p SequentialMachine s t e = refl
flush_none p (StoreBufferMachine gaps) s t e = ap (flushed s t) e

closed : (ws : List Pending) (s : State) → ws ≢ [] → when_empty ws s ≡ None
closed [] s h = absurd (h refl)
closed (w ∷ ws) s h = refl

held_none : (s : State) (t : ℕ) (b : Bool) (a : Action) → s.buffers t ≢ [] → (waits a ≡ true) ⊎ (b ≡ true) → option_and_then (λ z. buffered z t a) (past_gap b (s.buffers t) s) ≡ None
held_none s t true a h why = ap (option_and_then (λ z. buffered z t a)) (closed (s.buffers t) s h)
held_none s t false Stop h why = refl
held_none s t false (Wait next) h why = closed (s.buffers t) _ h
held_none s t false (Swap l v to next) h why = closed (s.buffers t) _ h
held_none s t b a h why = elim why [ inl e ↦ absurd cc | inr e ↦ absurd cc ]

-- the execution of another thread's instruction leaves an empty buffer empty
module _ (p : Listing) (t : ℕ) (out : length p.threads ≤ t) (s : State) (u : ℕ) (next : State) (e : s.buffers t ≡ []) (n : t ≡ u → ⊥) where
  same_buffer : (z : State) → Some z ≡ Some next → z.buffers t ≡ [] → next.buffers t ≡ []
  same_buffer z r h = let is : z ≡ next = cc in subst (λ (x : State). x.buffers t ≡ []) is h

  by_empty : (ws : List Pending) (z : State) → when_empty ws z ≡ Some next → z.buffers t ≡ [] → next.buffers t ≡ []
  by_empty [] z r h = same_buffer z r h
  by_empty (w ∷ ws) z r h = absurd cc

  by_action : (a : Action) → buffered s u a ≡ Some next → next.buffers t ≡ []
  by_action Stop r = absurd cc
  by_action (Wait l) r = by_empty (s.buffers u) _ r e
  by_action (Write k v l) r = same_buffer _ r (put_other s.buffers u (s.buffers u ++ record { location = k; value = v } ∷ []) t n ∙ e)
  by_action (Swap k v to l) r = by_empty (s.buffers u) _ r e
  by_action a r = same_buffer _ r e

  by_gap : (b : Bool) (ws : List Pending) (a : Action) → option_and_then (λ z. buffered z u a) (past_gap b ws s) ≡ Some next → next.buffers t ≡ []
  by_gap true (w ∷ ws) a r = absurd cc
  by_gap b ws a r = by_action a r

-- a thread that is not there never has a store
module _ (p : Listing) (t : ℕ) (out : length p.threads ≤ t) where
  step_keeps : (gaps : ℕ → ℕ → Bool) (s : State) (label : Label) (next : State) → s.buffers t ≡ [] → step p (StoreBufferMachine gaps) s label ≡ Some next → next.buffers t ≡ []
  step_keeps gaps s (Flush u) next e r = by_buffer (s.buffers u) refl r
    where
      by_buffer : (ws : List Pending) → s.buffers u ≡ ws → flushed s u ws ≡ Some next → next.buffers t ≡ []
      by_buffer [] q r = absurd cc
      by_buffer (w ∷ ws) q r =
          let other : t ≡ u → ⊥ = λ same. (let z : [] ≡ w ∷ ws = sym e ∙ ap s.buffers same ∙ q in cc) in
          let is : record s { buffers = put s.buffers u ws; memory = put s.memory w.location w.value } ≡ next = cc in
          subst (λ (z : State). z.buffers t ≡ []) is (put_other s.buffers u ws t other ∙ e)
  step_keeps gaps s (Exec u) next e r = elim (cases_eq t u) [
    | inl same ↦ absurd (let z : None ≡ Some next = sym (stop_none p (StoreBufferMachine gaps) s u (no_action p u (s.locals u) (subst (λ n. length p.threads ≤ n) same out))) ∙ r in cc)
    | inr other ↦ by_gap p t out s u next e other (gaps u (s.locals u).place) (s.buffers u) (action p.threads u (s.locals u)) r
  ]

  pub run_keeps : (gaps : ℕ → ℕ → Bool) (labels : List Label) (s last : State) → s.buffers t ≡ [] → run p (StoreBufferMachine gaps) s labels ≡ Some last → last.buffers t ≡ []
  run_keeps gaps [] s last e r = let q : s ≡ last = cc in subst (λ (z : State). z.buffers t ≡ []) q e
  run_keeps gaps (label ∷ labels) s last e r = go (step p (StoreBufferMachine gaps) s label) refl r (λ z h q. run_keeps gaps labels z last h q)
    where
      go : (o : Option State) → step p (StoreBufferMachine gaps) s label ≡ o → option_and_then (λ z. run p (StoreBufferMachine gaps) z labels) o ≡ Some last →
          ((z : State) → z.buffers t ≡ [] → run p (StoreBufferMachine gaps) z labels ≡ Some last → last.buffers t ≡ []) → last.buffers t ≡ []
      go None q r rest = absurd cc
      go (Some z) q r rest = rest z (step_keeps gaps s label z e q) r

run_stops : (p : Listing) (mode : Machine) (labels : List Label) (n : ℕ) (s before : State) (label : Label) → run p mode s (take n labels) ≡ Some before → slice_get labels n ≡ Some label →
    step p mode before label ≡ None → run p mode s labels ≡ None
run_stops p mode [] n s before label r g e = absurd cc
run_stops p mode (x ∷ xs) zero s before label r g e =
    let q : s ≡ before = cc in let w : x ≡ label = cc in ap (option_and_then (λ z. run p mode z xs)) ((λ i. step p mode (q i) (w i)) ∙ e)
run_stops p mode (x ∷ xs) (suc n) s before label r g e = go (step p mode s x) r (λ z q. run_stops p mode xs n z before label q g e)
  where
    go : (o : Option State) → option_and_then (λ z. run p mode z (take n xs)) o ≡ Some before → ((z : State) → run p mode z (take n xs) ≡ Some before → run p mode z xs ≡ None) → option_and_then (λ z. run p mode z xs) o ≡ None
    go None q rest = refl
    go (Some z) q rest = rest z q

-- a step to which a cause applies is not possible
pub applies_none : (p : Listing) (mode : Machine) (labels : List Label) (s : State) (cause : Cause) (label : Label) → run p mode (start p) labels ≡ Some s → Applies p mode s cause label → step p mode s label ≡ None
applies_none p mode labels s NoSuchThread (Exec t) r a = stop_none p mode s t (no_action p t (s.locals t) a)
applies_none p SequentialMachine labels s NoSuchThread (Flush t) r a = refl
applies_none p (StoreBufferMachine gaps) labels s NoSuchThread (Flush t) r a = flush_none p (StoreBufferMachine gaps) s t (run_keeps p t a gaps labels (start p) s refl r)
applies_none p mode labels s AtEnd (Exec t) r a = stop_none p mode s t a.1
applies_none p mode labels s BufferEmpty (Flush t) r a = flush_none p mode s t a.1
applies_none p SequentialMachine labels s FenceWaits (Exec t) r a = absurd (a.0 (ap (λ (f : ℕ → List Pending). f t) (no_stores p labels (start p) s r)))
applies_none p (StoreBufferMachine gaps) labels s FenceWaits (Exec t) r a = held_none s t (gaps t (s.locals t).place) (action p.threads t (s.locals t)) a.0 a.1
applies_none p mode labels s cause label r a = absurd a

pub stops_none : (p : Listing) (mode : Machine) (labels : List Label) (n : ℕ) (cause : Cause) → Stops p mode labels n cause → run p mode (start p) labels ≡ None
stops_none p mode labels n cause s =
    run_stops p mode labels n (start p) s.before s.label s.reached s.there (applies_none p mode (take n labels) s.before cause s.label s.reached s.why)

not_both : (A : Type 0) (o : Option State) (last : State) → o ≡ None → o ≡ Some last → A
not_both A o last e f = absurd (let z : None ≡ Some last = sym e ∙ f in cc)

early : (p : Listing) (mode : Machine) (labels : List Label) (n : ℕ) (last : State) (A : Type 0) → run p mode (start p) labels ≡ Some last → HasEnded p last → EndsEarly p mode labels n → A
early p mode labels n last A r ended e =
    let same : last ≡ e.last = (let z : Some last ≡ Some e.last = sym r ∙ e.reached in cc) in
    let done = subst (λ (s : State). HasEnded p s) same ended in
    elim e.unfinished.1 [ inl a ↦ absurd (a (done e.thread).0) | inr b ↦ absurd (b (done e.thread).1) ]

-- labels are a run with one outcome at most
pub one_outcome : (p : Listing) (mode : Machine) (labels : List Label) (o o' : Outcome) → IsRun p mode labels o → IsRun p mode labels o' → o ≡ o'
one_outcome p mode labels o o' (last, r, ended, e) (last', r', ended', e') =
    let same : last ≡ last' = (let z : Some last ≡ Some last' = sym r ∙ r' in cc) in
    e ∙ ap (outcome_at p) same ∙ sym e'

-- and one thing is shown of it
pub one_shown : (q : Question) (mode : Machine) (labels : List Label) (o o' : Outcome) → IsShownRun q mode labels o → IsShownRun q mode labels o' → o ≡ o'
one_shown q mode labels o o' (whole, is_run, shown) (other, again, same) = shown ∙ ap (show q.shown) (one_outcome q.program mode labels whole other is_run again) ∙ sym same

pub no_fault : (p : Listing) (mode : Machine) (labels : List Label) (o : Outcome) (why : ReplayFault) → IsRun p mode labels o → ReplayFaultIs p mode labels why → why ≡ fault.OutOfMemory
no_fault p mode labels o (fault.NoSuchThread n) (last, r, ended, e) f = not_both _ _ last (stops_none p mode labels n NoSuchThread f) r
no_fault p mode labels o (fault.AtEnd n) (last, r, ended, e) f = not_both _ _ last (stops_none p mode labels n AtEnd f) r
no_fault p mode labels o (fault.BufferEmpty n) (last, r, ended, e) f = not_both _ _ last (stops_none p mode labels n BufferEmpty f) r
no_fault p mode labels o (fault.FenceWaits n) (last, r, ended, e) f = not_both _ _ last (stops_none p mode labels n FenceWaits f) r
no_fault p mode labels o (fault.NotEnded n) (last, r, ended, e) f = early p mode labels n last _ r ended f
no_fault p mode labels o fault.OutOfMemory run f = refl
