-- Walks that go on: jumps lead forward, so each thread comes to its end.
use Rattle.sequential_states.proofs.Vocabulary.{◌≡◌, ℕ, ◌-◌, ◌<◌, Bool, true, false, not, List, [], ◌∷◌, ◌++◌, Option, Some, None, length, refl, sym, ap, ◌∙◌, subst, arith, inl, inr, cases_eq, append_assoc, append-nil, slice_get, slice_get_within, option_and_then, same_Some}
use Rattle.sequential_states.proofs.Vocabulary.{Action, Stop, Go, Wait, Read, Write, Swap, Local, Instr, Je, Jmp, Jne, Listing, JumpForward, act, jumped, loaded, action, code_of, Exec, Label, SequentialMachine, State, direct, put, put_same, put_other, run, start, step, outcome_at, IsRun}
use Rattle.sequential_states.proofs.Vocabulary.{Shot, state_of, IsThreadAtEnd, IsLonger, IsWalk, IsWalkOn, Walk, IsExecutedBy}
use Rattle.sequential_states.proofs.RunParts.{run_joined}
use Rattle.tso_program.proofs.Advance.{Further, Advances, advance}

-- what thread t has before it, in a state
abbrev pub left : Listing → Shot → ℕ → ℕ
left p s t = length (code_of p.threads t) - ((state_of s).locals t).place

-- a step of thread t changes that thread alone, and leads it on
module _ (p : Listing) (s : State) (t : ℕ) where
  abbrev OtherThreadsStay : State → Type 0
  OtherThreadsStay next = (u : ℕ) → (u ≡ t → ⊥) → next.locals u ≡ s.locals u

  pub stays : (next : State) → step p SequentialMachine s (Exec t) ≡ Some next → OtherThreadsStay next
  stays next e = go (action p.threads t (s.locals t)) e
    where
      go : (a : Action) → direct s t a ≡ Some next → OtherThreadsStay next
      go Stop r = absurd cc
      go (Go x) r = subst OtherThreadsStay (same_Some _ next r) (put_other s.locals t x)
      go (Wait x) r = subst OtherThreadsStay (same_Some _ next r) (put_other s.locals t x)
      go (Read l to x) r = subst OtherThreadsStay (same_Some _ next r) (put_other s.locals t (loaded to (s.memory l) x))
      go (Write l v x) r = subst OtherThreadsStay (same_Some _ next r) (put_other s.locals t x)
      go (Swap l v to x) r = subst OtherThreadsStay (same_Some _ next r) (put_other s.locals t (loaded to (s.memory l) x))

  abbrev GoesFurther : State → Type 0
  GoesFurther next = ((s.locals t).place < length (code_of p.threads t)) × ((s.locals t).place < (next.locals t).place)

  goes_further : JumpForward p.threads → (next : State) → step p SequentialMachine s (Exec t) ≡ Some next → GoesFurther next
  goes_further forward next e = go (action p.threads t (s.locals t)) (advance p forward t (s.locals t)) e
    where
      by : (x : Local) (after : State) → after.locals ≡ put s.locals t x → Further (length (code_of p.threads t)) (s.locals t).place x → GoesFurther after
      by x after is (a, b) = (a, subst (λ n. (s.locals t).place < n) (sym (ap (λ (f : ℕ → Local). (f t).place) is ∙ ap (λ (z : Local). z.place) (put_same s.locals t x))) b)

      go : (a : Action) → Advances (length (code_of p.threads t)) (s.locals t).place a → direct s t a ≡ Some next → GoesFurther next
      go Stop d r = absurd cc
      go (Go x) d r = subst GoesFurther (same_Some _ next r) (by x (record s { locals = put s.locals t x }) refl d)
      go (Wait x) d r = subst GoesFurther (same_Some _ next r) (by x (record s { locals = put s.locals t x }) refl d)
      go (Read l to x) d r = subst GoesFurther (same_Some _ next r) (by (loaded to (s.memory l) x) (record s { locals = put s.locals t (loaded to (s.memory l) x) }) refl d)
      go (Write l v x) d r = subst GoesFurther (same_Some _ next r) (by x (record s { locals = put s.locals t x; memory = put s.memory l v }) refl d)
      go (Swap l v to x) d r = subst GoesFurther (same_Some _ next r) (by (loaded to (s.memory l) x) (record s { locals = put s.locals t (loaded to (s.memory l) x); memory = put s.memory l v }) refl d)

-- so it has less before it
pub less_left : (p : Listing) (s next : Shot) (t : ℕ) → JumpForward p.threads → step p SequentialMachine (state_of s) (Exec t) ≡ Some (state_of next) → left p next t < left p s t
less_left p s next t forward e = let (a, b) = goes_further p (state_of s) t forward (state_of next) e in omega arith

-- a thread at its end stays there
pub stays_ended : (p : Listing) (s next : Shot) (t u : ℕ) → step p SequentialMachine (state_of s) (Exec t) ≡ Some (state_of next) → IsThreadAtEnd p s u → IsThreadAtEnd p next u
stays_ended p s next t u e ended = elim (cases_eq u t) [
  | inl q ↦ absurd (
      let stop : action p.threads t ((state_of s).locals t) ≡ Stop = subst (λ z. action p.threads z ((state_of s).locals z) ≡ Stop) q ended in
      let z : None ≡ Some (state_of next) = sym (ap (direct (state_of s) t) stop) ∙ e in cc)
  | inr n ↦ ap (action p.threads u) (stays p (state_of s) t (state_of next) e u n) ∙ ended
]

module _ (p : Listing) where
  -- the labels with one more
  pub one_more : (s next last : State) (labels : List Label) (l : Label) → run p SequentialMachine s labels ≡ Some next → step p SequentialMachine next l ≡ Some last → run p SequentialMachine s (labels ++ l ∷ []) ≡ Some last
  one_more s next last labels l e made = run_joined p s next labels (l ∷ []) e ∙ ap (option_and_then (λ z. Some z)) made

  pub walks_on : (w after : Walk) (t : ℕ) → IsWalk p w → IsLonger p w t after → IsWalk p after
  walks_on w after t is longer = record {
    reached = subst (λ (ls : List Label). run p SequentialMachine (start p) ls ≡ Some (state_of after.state)) (sym longer.labels)
        (one_more (start p) (state_of w.state) (state_of after.state) w.labels (Exec t) is.reached longer.leads);
    fits = longer.fits;
  }

  pub no_further : (w : Walk) → IsWalk p w → IsWalkOn p w w
  no_further w is = record { more = []; labels = sym (append-nil w.labels); walked = is; ended = λ t e. e }

  pub further : (w next : Walk) (t : ℕ) → IsWalk p w → IsLonger p w t next → IsWalkOn p w next
  further w next t is longer = record { more = Exec t ∷ []; labels = longer.labels; walked = walks_on w next t is longer; ended = λ u e. stays_ended p w.state next.state t u longer.leads e }

  pub both_further : (w next after : Walk) → IsWalkOn p w next → IsWalkOn p next after → IsWalkOn p w after
  both_further w next after one two = record {
    more = one.more ++ two.more;
    labels = two.labels ∙ ap (λ ls. ls ++ two.more) one.labels ∙ append_assoc w.labels one.more two.more;
    walked = two.walked;
    ended = λ t e. two.ended t (one.ended t e);
  }

  -- a walk to where each thread is at its end is a run
  pub is_run : (w : Walk) → IsWalk p w → ((t : ℕ) → IsThreadAtEnd p w.state t) → IsRun p SequentialMachine w.labels (outcome_at p (state_of w.state))
  is_run w is ended = (state_of w.state, is.reached, (λ t. (ended t, refl)), refl)

  -- which executes what its first labels do
  pub executes : (w next after : Walk) (t k : ℕ) → IsWalk p w → ((state_of w.state).locals t).place ≡ k → IsLonger p w t next → IsWalkOn p next after → IsExecutedBy p after.labels t k
  executes w next after t k is stands longer on = record {
    before = w.labels;
    after = on.more;
    split = on.labels ∙ ap (λ ls. ls ++ on.more) longer.labels ∙ append_assoc w.labels (Exec t ∷ []) on.more;
    state = state_of w.state;
    reached = is.reached;
    next = stands;
  }
