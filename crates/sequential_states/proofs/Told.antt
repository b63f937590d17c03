-- The examples, computed.
use Rattle.sequential_states.proofs.Vocabulary.{◌≡◌, ℕ, suc, zero, false, List, [], ◌∷◌, Some, refl, ap, arith, length, Stop, Listing, action, Label, Exec, Flush, Pending, Outcome, SequentialMachine, State, put, start, run, HasEnded, no_action, no_stores}
use Rattle.sequential_states.proofs.Vocabulary.{IsExecuted, IsExecutedBy}
use Rattle.tso_machine.specs.Examples.{store_buffering, in_turn, ends_with, with_eax_ebx}
use Rattle.tso_machine.proofs.ExamplesTold.{store_buffering_is_told}
use Rattle.sequential_states.specs.Examples.{StoreBufferingIsExecuted, ABranchIsTold, looks_for}

-- one of the labels of the run is the instruction's
in_turn_executes : (t k : ℕ) → IsExecutedBy store_buffering in_turn t k → IsExecuted store_buffering t k
in_turn_executes t k by = let (waiting, first, second, is_run) = store_buffering_is_told in (in_turn, (ends_with 0 0 1 0 1 1, is_run, by))

pub store_buffering_is_executed : StoreBufferingIsExecuted
store_buffering_is_executed = (
  in_turn_executes 0 0 (record { before = []; after = Exec 0 ∷ Exec 1 ∷ Exec 1 ∷ []; split = refl; state = _; reached = refl; next = refl }),
  in_turn_executes 0 1 (record { before = Exec 0 ∷ []; after = Exec 1 ∷ Exec 1 ∷ []; split = refl; state = _; reached = refl; next = refl }),
  in_turn_executes 1 0 (record { before = Exec 0 ∷ Exec 0 ∷ []; after = Exec 1 ∷ []; split = refl; state = _; reached = refl; next = refl }),
  in_turn_executes 1 1 (record { before = Exec 0 ∷ Exec 0 ∷ Exec 1 ∷ []; after = []; split = refl; state = _; reached = refl; next = refl }),
)

-- the one thread is at its end, and there is no other
ended_alone : (p : Listing) (labels : List Label) (last : State) → length p.threads ≡ 1 → run p SequentialMachine (start p) labels ≡ Some last → action p.threads 0 (last.locals 0) ≡ Stop → HasEnded p last
ended_alone p labels last one r first t = (done t, ap (λ (f : ℕ → List Pending). f t) (no_stores p labels (start p) last r))
  where
    done : (t : ℕ) → action p.threads t (last.locals t) ≡ Stop
    done zero = first
    done (suc t) = no_action p (suc t) (last.locals (suc t)) (omega arith)

abbrev three_steps : List Label
three_steps = Exec 0 ∷ Exec 0 ∷ Exec 0 ∷ []

abbrev found_it : Outcome
found_it = record { registers = with_eax_ebx 0 0 ∷ []; memory = 1 ∷ [] }

not_jumped : IsExecuted (looks_for 0) 0 2
not_jumped = (
  three_steps,
  (
    found_it,
    (_, refl, ended_alone (looks_for 0) three_steps _ refl refl refl, refl),
    record { before = Exec 0 ∷ Exec 0 ∷ []; after = []; split = refl; state = _; reached = refl; next = refl },
  ),
)

-- the state with the thread at this place
abbrev standing : ℕ → State → State
standing k s = record s { locals = put s.locals 0 (record { place = k; registers = with_eax_ebx 0 0; flag = false }) }

abbrev compared_it : State
compared_it = standing 1 (start (looks_for 1))

abbrev jumped_over : State
jumped_over = standing 3 compared_it

-- no steps lead to the store
at_the_end : (labels : List Label) (s : State) → run (looks_for 1) SequentialMachine jumped_over labels ≡ Some s → (s.locals 0).place ≡ 2 → ⊥
at_the_end [] s e h = let q : jumped_over ≡ s = cc in let place : 3 ≡ (s.locals 0).place = ap (λ (z : State). (z.locals 0).place) q in omega arith
at_the_end (Flush t ∷ labels) s e h = absurd cc
at_the_end (Exec zero ∷ labels) s e h = absurd cc
at_the_end (Exec (suc t) ∷ labels) s e h = absurd cc

at_the_jump : (labels : List Label) (s : State) → run (looks_for 1) SequentialMachine compared_it labels ≡ Some s → (s.locals 0).place ≡ 2 → ⊥
at_the_jump [] s e h = let q : compared_it ≡ s = cc in let place : 1 ≡ (s.locals 0).place = ap (λ (z : State). (z.locals 0).place) q in omega arith
at_the_jump (Flush t ∷ labels) s e h = absurd cc
at_the_jump (Exec zero ∷ labels) s e h = at_the_end labels s e h
at_the_jump (Exec (suc t) ∷ labels) s e h = absurd cc

at_the_start : (labels : List Label) (s : State) → run (looks_for 1) SequentialMachine (start (looks_for 1)) labels ≡ Some s → (s.locals 0).place ≡ 2 → ⊥
at_the_start [] s e h = let q : start (looks_for 1) ≡ s = cc in let place : 0 ≡ (s.locals 0).place = ap (λ (z : State). (z.locals 0).place) q in omega arith
at_the_start (Flush t ∷ labels) s e h = absurd cc
at_the_start (Exec zero ∷ labels) s e h = at_the_jump labels s e h
at_the_start (Exec (suc t) ∷ labels) s e h = absurd cc

pub a_branch_is_told : ABranchIsTold
a_branch_is_told = (
  not_jumped,
  λ executed.
      let (labels, through) = executed in
      let (o, is_run, by) = through in
      at_the_start by.before by.state by.reached by.next,
)
