-- The steps of the store buffer machine, by cases.
use Rattle.std.proofs.Common.{◌≡◌, ℕ, Bool, true, false, List, [], ◌∷◌, ◌++◌, Option, Some, option_and_then, refl}
use Rattle.tso_program.specs.declared.listing.Listing.{Listing}
use Rattle.tso_program.specs.declared.action.Local.{Local}
use Rattle.tso_program.specs.declared.action.Action.{Action, TheVariants.Stop, TheVariants.Go, TheVariants.Wait, TheVariants.Read, TheVariants.Write, TheVariants.Swap}
use Rattle.tso_program.specs.Listings.{action}
use Rattle.tso_program.specs.Actions.{loaded}
use Rattle.tso_program.specs.Fences.{Gaps}
use Rattle.tso_machine.specs.Machine.{put, StoreBufferMachine, State, newest, found}
use Rattle.tso_machine.specs.Machine.{when_empty, past_gap, buffered, flushed, step}
use Rattle.tso_machine.specs.declared.label.Label.{TheVariants.Exec, TheVariants.Flush}
use Rattle.tso_machine.specs.declared.label.Pending.{Pending}
use Rattle.tso_program.specs.declared.instruction.Reg.{Reg}

module _ (last : State) (K : State → Option State) where
  -- a gap was passed with nothing waiting, or was not fenced
  gap_cases : (b : Bool) (ws : List Pending) (s : State) (f : State → Option State) →
      option_and_then K (option_and_then f (past_gap b ws s)) ≡ Some last → (b ≡ true → ws ≡ []) × (option_and_then K (f s) ≡ Some last)
  gap_cases true [] s f h = ((λ e. refl), h)
  gap_cases true (w ∷ ws) s f h = absurd cc
  gap_cases false ws s f h = ((λ e. absurd cc), h)

  -- nothing waited
  empty_cases : (ws : List Pending) (s : State) → option_and_then K (when_empty ws s) ≡ Some last → (ws ≡ []) × (K s ≡ Some last)
  empty_cases [] s h = (refl, h)
  empty_cases (w ∷ ws) s h = absurd cc

  -- what the execution of an instruction did, and how the run goes on
  module _ (p : Listing) (gaps : Gaps) (s : State) (t : ℕ) (C : Type 0) where
    pub exec_by : option_and_then K (step p (StoreBufferMachine gaps) s (Exec t)) ≡ Some last →
        (go : (next : Local) → action p.threads t (s.locals t) ≡ Go next → (gaps t (s.locals t).place ≡ true → s.buffers t ≡ []) →
        K (record s { locals = put s.locals t next }) ≡ Some last → C) →
        (wait : (next : Local) → action p.threads t (s.locals t) ≡ Wait next → s.buffers t ≡ [] → K (record s { locals = put s.locals t next }) ≡ Some last → C) →
        (read : (l : ℕ) (to : Reg) (next : Local) → action p.threads t (s.locals t) ≡ Read l to next → (gaps t (s.locals t).place ≡ true → s.buffers t ≡ []) →
        K (record s { locals = put s.locals t (loaded to (found (newest l (s.buffers t)) (s.memory l)) next) }) ≡ Some last → C) →
        (write : (l v : ℕ) (next : Local) → action p.threads t (s.locals t) ≡ Write l v next → (gaps t (s.locals t).place ≡ true → s.buffers t ≡ []) →
        K (record s { locals = put s.locals t next; buffers = put s.buffers t (s.buffers t ++ record { location = l; value = v } ∷ []) }) ≡ Some last → C) →
        (swap : (l v : ℕ) (to : Reg) (next : Local) → action p.threads t (s.locals t) ≡ Swap l v to next → s.buffers t ≡ [] →
        K (record s { locals = put s.locals t (loaded to (s.memory l) next); memory = put s.memory l v }) ≡ Some last → C) → C
    exec_by h go wait read write swap = by_action (action p.threads t (s.locals t)) refl (parts.1)
      where
        parts : (gaps t (s.locals t).place ≡ true → s.buffers t ≡ []) × (option_and_then K (buffered s t (action p.threads t (s.locals t))) ≡ Some last)
        parts = gap_cases (gaps t (s.locals t).place) (s.buffers t) s (λ s'. buffered s' t (action p.threads t (s.locals t))) h

        by_action : (a : Action) → action p.threads t (s.locals t) ≡ a → option_and_then K (buffered s t a) ≡ Some last → C
        by_action Stop e r = absurd cc
        by_action (Go next) e r = go next e parts.0 r
        by_action (Wait next) e r = let (b, k) = empty_cases (s.buffers t) (record s { locals = put s.locals t next }) r in wait next e b k
        by_action (Read l to next) e r = read l to next e parts.0 r
        by_action (Write l v next) e r = write l v next e parts.0 r
        by_action (Swap l v to next) e r =
            let (b, k) = empty_cases (s.buffers t) (record s { locals = put s.locals t (loaded to (s.memory l) next); memory = put s.memory l v }) r in
            swap l v to next e b k

    -- what a flush did, and how the run goes on
    pub flush_by : option_and_then K (step p (StoreBufferMachine gaps) s (Flush t)) ≡ Some last →
        ((w : Pending) (ws : List Pending) → s.buffers t ≡ w ∷ ws →
        K (record s { buffers = put s.buffers t ws; memory = put s.memory w.location w.value }) ≡ Some last → C) → C
    flush_by h f = by_buffer (s.buffers t) refl h
      where
        by_buffer : (ws : List Pending) → s.buffers t ≡ ws → option_and_then K (flushed s t ws) ≡ Some last → C
        by_buffer [] e r = absurd cc
        by_buffer (w ∷ ws) e r = f w ws e r
