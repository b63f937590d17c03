-- Each step is one of the program's threads, and no run is longer than what is listed.
use Rattle.the_answer.proofs.Vocabulary.{◌≡◌, ℕ, zero, suc, ◌<◌, ◌≤◌, Bool, true, false, List, [], ◌∷◌, length, Some, None, slice_get, sym, ap, ◌∙◌, subst, inl, inr, arith, cases_lt, Listing, Label, Exec, Flush, Pending, action, code_of, instr_at, Gaps}
use Rattle.the_answer.proofs.Vocabulary.{Machine, SequentialMachine, StoreBufferMachine, no_gaps, State, step, longest, RunsAreBounded}
use Rattle.std.proofs.Math.Nat.{le-max_left, le-max_right}
use Rattle.tso_program.specs.{declared.instruction.Instr.Instr, declared.listing.Thread.Thread}
use Rattle.tso_program.proofs.Found.{no_code}
use Rattle.tso_machine.proofs.{RunsAreShort.run_bound, ChangedAt.put_other, EitherMachine.mode_with, EitherMachine.made, EitherMachine.others_keep, EitherMachine.stands_at, EitherMachine.stored, EitherMachine.flush_made}

-- nothing waits in the buffers of threads that the program has not
abbrev pub NoOtherThread : Listing → State → Type 0
NoOtherThread p s = (t : ℕ) → length p.threads ≤ t → s.buffers t ≡ []

-- the thread of a label
abbrev pub thread_of : Label → ℕ
thread_of (Exec t) = t
thread_of (Flush t) = t

-- the thread is one of the program's, and nothing waits in the buffers of others
pub record IsOfProgram (p : Listing) (z : State) (t : ℕ) : Type 0 where
  pub inside : t < length p.threads
  pub no_other : NoOtherThread p z

module _ (p : Listing) where
  -- a thread that stands at an instruction is one of the program
  standing : (t k : ℕ) (x : Instr) → instr_at p.threads t k ≡ Some x → t < length p.threads
  standing t k x at = elim (cases_lt t (length p.threads)) [
    | inl inside ↦ inside
    | inr past ↦ absurd (let no : None ≡ Some x = sym (ap (λ (code : List Instr). slice_get code k) (no_code p.threads t past)) ∙ at in cc)
  ]

  -- and so is one with stores that wait
  waiting : (s : State) (t : ℕ) (w : Pending) (ws : List Pending) → NoOtherThread p s → s.buffers t ≡ w ∷ ws → t < length p.threads
  waiting s t w ws none e = elim (cases_lt t (length p.threads)) [
    | inl inside ↦ inside
    | inr past ↦ absurd (let no : [] ≡ w ∷ ws = sym (none t past) ∙ e in cc)
  ]

  still_none : (s z : State) (t : ℕ) → t < length p.threads → NoOtherThread p s → ((u : ℕ) → (u ≡ t → ⊥) → z.buffers u ≡ s.buffers u) → NoOtherThread p z
  still_none s z t inside none others u past = others u (λ e. omega arith) ∙ none u past

  module _ (gaps : Gaps) (waits : Bool) where
    exec_of : (s z : State) (t : ℕ) → NoOtherThread p s → step p (mode_with waits gaps) s (Exec t) ≡ Some z → IsOfProgram p z t
    exec_of s z t none e =
        let r = (made p gaps waits s z t e).1 in
        let at = stands_at p waits s z t r in
        let inside = standing t (s.locals t).place at.0 at.1 in
        record { inside = inside; no_other = still_none s z t inside none (λ u other. (others_keep t u other waits s z (action p.threads t (s.locals t)) r).buffer) }

    stored_of : (s : State) (t : ℕ) (w : Pending) (ws : List Pending) → NoOtherThread p s → s.buffers t ≡ w ∷ ws → IsOfProgram p (stored s t w ws) t
    stored_of s t w ws none e =
        let inside = waiting s t w ws none e in
        record { inside = inside; no_other = still_none s (stored s t w ws) t inside none (λ u other. put_other s.buffers t ws u other) }

    either_of : (s z : State) (l : Label) → NoOtherThread p s → step p (mode_with waits gaps) s l ≡ Some z → IsOfProgram p z (thread_of l)
    either_of s z (Exec t) none e = exec_of s z t none e
    either_of s z (Flush t) none e =
        let f = flush_made p gaps waits s z t e in
        subst (λ (x : State). IsOfProgram p x t) (sym f.result) (stored_of s t f.oldest f.others none f.waiting)

  -- a step in either mode
  pub of_program : (mode : Machine) (s z : State) (l : Label) → NoOtherThread p s → step p mode s l ≡ Some z → IsOfProgram p z (thread_of l)
  of_program SequentialMachine s z l none e = either_of no_gaps false s z l none e
  of_program (StoreBufferMachine gaps) s z l none e = either_of gaps true s z l none e

-- no thread is longer than the longest
no_longer : (threads : List Thread) (t : ℕ) → length (code_of threads t) ≤ longest threads
no_longer (x ∷ xs) zero = le-max_left (length x.code) (longest xs)
no_longer (x ∷ xs) (suc t) = omega (arith, no_longer xs t, le-max_right (length x.code) (longest xs))
no_longer [] t = omega arith

pub bounded : RunsAreBounded
bounded p mode labels last forward e = run_bound p forward mode labels last (longest p.threads) (no_longer p.threads) e
