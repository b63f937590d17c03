-- The lists that the code keeps, seen as the machine's functions, and which threads have a step.
use Rattle.sequential_states.proofs.Vocabulary.{◌≡◌, ℕ, suc, ◌<◌, ◌≤◌, List, [], ◌∷◌, Option, Some, None, MatchOption, length, map, refl, sym, ap, ◌∙◌, subst, inl, inr, cases_lt, slice_index, slice_index_or}
use Rattle.sequential_states.proofs.Vocabulary.{Action, Stop, Thread, Listing, action, Exec, SequentialMachine, State, direct, start, step, fun_ext, no_action}
use Rattle.sequential_states.proofs.Vocabulary.{Shot, no_local, state_of, thread_start, first_shot, FitsProgram, IsStep, HasNoStep, IsThreadAtEnd}

abbrev no_thread : Thread
no_thread = record { code = []; registers = [] }

first_at : (threads : List Thread) (t : ℕ) → slice_index_or (map thread_start threads) t no_local ≡ thread_start (slice_index_or threads t no_thread)
first_at (x ∷ xs) (suc t) = first_at xs t
first_at threads t = refl

-- the program's start
pub state_of_first : (p : Listing) → state_of (first_shot p) ≡ start p
state_of_first p = λ i. record { locals = (fun_ext (first_at p.threads)) i; buffers = λ t. []; memory = slice_index p.memory }

-- a thread that does nothing has no step
pub no_step : (p : Listing) (s : Shot) (t : ℕ) → IsThreadAtEnd p s t → HasNoStep p s t
no_step p s t e = ap (direct (state_of s) t) e

-- and a thread that has none does nothing
pub at_end : (p : Listing) (s : Shot) (t : ℕ) → HasNoStep p s t → IsThreadAtEnd p s t
at_end p s t e = go (action p.threads t ((state_of s).locals t)) e
  where
    go : (a : Action) → direct (state_of s) t a ≡ None → a ≡ Stop
    go Stop h = refl
    go a h = absurd cc

-- a thread that is not there is at its end
pub past_end : (p : Listing) (s : Shot) (t : ℕ) → FitsProgram p s → length s.locals ≤ t → IsThreadAtEnd p s t
past_end p s t fits h = no_action p t ((state_of s).locals t) (subst (λ n. n ≤ t) fits.threads h)

-- a thread that has a step is there
pub is_there : (p : Listing) (s : Shot) (t : ℕ) (next : State) → FitsProgram p s → step p SequentialMachine (state_of s) (Exec t) ≡ Some next → t < length s.locals
is_there p s t next fits e = elim (cases_lt t (length s.locals)) [
  | inl h ↦ h
  | inr h ↦ absurd (let z : None ≡ Some next = sym (no_step p s t (past_end p s t fits h)) ∙ e in cc)
]

-- a state that is found after the step is the one that the step leads to
pub made_step : (p : Listing) (s : Shot) (t : ℕ) (after : Option Shot) (next : Shot) → MatchOption after (HasNoStep p s t) (IsStep p s t) → after ≡ Some next → IsStep p s t next
made_step p s t after next h e = subst (λ o. MatchOption o (HasNoStep p s t) (IsStep p s t)) e h
