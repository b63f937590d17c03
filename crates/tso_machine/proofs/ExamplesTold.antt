-- The runs of the examples, computed.
use Rattle.tso_machine.proofs.Vocabulary.{◌≡◌, ℕ, zero, suc, ◌≤◌, List, [], length, Some, refl, ap, arith, Stop, Listing, action, Label, Pending, SequentialMachine, StoreBufferMachine, no_gaps, State, start, run, HasEnded, StoreBufferingIsTold}
use Rattle.tso_machine.proofs.Vocabulary.{store_buffering, waiting_stores, in_turn}
use Rattle.tso_machine.proofs.{Runs.no_action, Runs.no_stores, Refused.run_keeps}

-- a thread's next action and its waiting stores, at the end
abbrev IsDone : Listing → State → ℕ → Type 0
IsDone p s t = (action p.threads t (s.locals t) ≡ Stop) × (s.buffers t ≡ [])

-- of two threads, both are at their ends, and there is no other
pub ended : (p : Listing) (labels : List Label) (last : State) → length p.threads ≡ 2 → run p (StoreBufferMachine no_gaps) (start p) labels ≡ Some last → IsDone p last 0 → IsDone p last 1 → HasEnded p last
ended p labels last two r first second zero = first
ended p labels last two r first second (suc zero) = second
ended p labels last two r first second (suc (suc t)) =
    let out : length p.threads ≤ suc (suc t) = omega arith in
    (no_action p (suc (suc t)) (last.locals (suc (suc t))) out, run_keeps p (suc (suc t)) out no_gaps labels (start p) last refl r)

-- in the sequential machine no store waits, so the run has ended
ended_in_turn : (p : Listing) (labels : List Label) (last : State) → length p.threads ≡ 2 → run p SequentialMachine (start p) labels ≡ Some last → action p.threads 0 (last.locals 0) ≡ Stop → action p.threads 1 (last.locals 1) ≡ Stop → HasEnded p last
ended_in_turn p labels last two r first second t = (done t, ap (λ (f : ℕ → List Pending). f t) (no_stores p labels (start p) last r))
  where
    done : (t : ℕ) → action p.threads t (last.locals t) ≡ Stop
    done zero = first
    done (suc zero) = second
    done (suc (suc t)) = no_action p (suc (suc t)) (last.locals (suc (suc t))) (omega arith)

pub store_buffering_is_told : StoreBufferingIsTold
store_buffering_is_told = ((_, refl, ended store_buffering waiting_stores _ refl refl (refl, refl) (refl, refl), refl), refl, refl, (_, refl, ended_in_turn store_buffering in_turn _ refl refl refl refl, refl))
