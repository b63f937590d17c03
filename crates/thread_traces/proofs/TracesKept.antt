-- A thread that is not there has no code.
use Rattle.thread_traces.proofs.Vocabulary.{◌≡◌, ℕ, zero, suc, ◌≤◌, List, [], ◌∷◌, None, slice_get, length, ap, arith, Thread, Local, Stop, action, act}
pub use Rattle.tso_program.proofs.Found.{no_code}

-- nothing stands past the end
pub past_end : {A : Type 0} (xs : List A) (i : ℕ) → slice_get xs i ≡ None → length xs ≤ i
past_end [] i e = omega arith
past_end (x ∷ xs) zero e = absurd cc
past_end (x ∷ xs) (suc i) e = let h = past_end xs i e in omega arith

-- and stands still
pub no_action : (threads : List Thread) (t : ℕ) (s : Local) → length threads ≤ t → action threads t s ≡ Stop
no_action threads t s h = ap (λ code. act (slice_get code s.place) s) (no_code threads t h)
