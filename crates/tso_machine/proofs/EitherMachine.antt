-- The steps of either machine, in one form.
use Rattle.tso_machine.specs.declared.label.Label.{Label}
use Rattle.tso_machine.specs.Machine.{run}
use Rattle.std.proofs.Common.{◌≡◌, ℕ, Bool, true, false, List, [], ◌∷◌, Option, Some, None, option_and_then, refl, sym, ap, ◌∙◌}
use Rattle.std.proofs.lemmas.Option.{same_Some}
use Rattle.tso_program.specs.declared.instruction.Instr.{Instr}
use Rattle.tso_program.specs.declared.listing.Listing.{Listing}
use Rattle.tso_program.specs.declared.action.Local.{Local}
use Rattle.tso_program.specs.declared.action.Action.{Action, TheVariants.Stop, TheVariants.Go, TheVariants.Wait, TheVariants.Read, TheVariants.Write, TheVariants.Swap}
use Rattle.tso_program.specs.Actions.{act, loaded}
use Rattle.tso_program.specs.Listings.{action, instr_at}
use Rattle.tso_program.specs.Fences.{Gaps}
use Rattle.tso_machine.specs.declared.label.Label.{TheVariants.Exec, TheVariants.Flush}
use Rattle.tso_machine.specs.declared.label.Pending.{Pending}
use Rattle.tso_machine.specs.Machine.{Machine, SequentialMachine, StoreBufferMachine, State, put, when_empty, past_gap, buffered, direct, flushed, step}
use Rattle.tso_machine.proofs.{ChangedAt.put_other, Effects.past_if_empty}

-- the store buffer machine with these gaps fenced, or the sequential machine
abbrev pub mode_with : Bool → Gaps → Machine
mode_with true gaps = StoreBufferMachine gaps
mode_with false gaps = SequentialMachine

-- what an action does on either
abbrev pub effect : Bool → State → ℕ → Action → Option State
effect true = buffered
effect false = direct

-- a step goes before further ones
pub run_first : (p : Listing) (mode : Machine) (s z : State) (l : Label) (ls : List Label) → step p mode s l ≡ Some z → run p mode s (l ∷ ls) ≡ run p mode z ls
run_first p mode s z l ls e = ap (option_and_then (λ next. run p mode next ls)) e

-- nothing waits, where stores wait at all
abbrev pub NothingWaits : Bool → List Pending → Type 0
NothingWaits waits ws = waits ≡ true → ws ≡ []

-- and nothing else
empty_if_past : (b : Bool) (ws : List Pending) (s z : State) (f : State → Option State) → option_and_then f (past_gap b ws s) ≡ Some z → (b ≡ true → ws ≡ []) × (f s ≡ Some z)
empty_if_past true [] s z f h = ((λ e. refl), h)
empty_if_past true (w ∷ ws) s z f h = absurd cc
empty_if_past false ws s z f h = ((λ e. absurd cc), h)

module _ (p : Listing) (gaps : Gaps) where
  -- an instruction is executed where nothing waits at its fenced gap
  pub makes : (b : Bool) (s : State) (t : ℕ) → (gaps t (s.locals t).place ≡ true → NothingWaits b (s.buffers t)) →
      step p (mode_with b gaps) s (Exec t) ≡ effect b s t (action p.threads t (s.locals t))
  makes true s t h = past_if_empty (gaps t (s.locals t).place) (s.buffers t) s (λ z. buffered z t (action p.threads t (s.locals t))) (λ g. h g refl)
  makes false s t h = refl

  -- and only there
  pub made : (b : Bool) (s z : State) (t : ℕ) → step p (mode_with b gaps) s (Exec t) ≡ Some z →
      (gaps t (s.locals t).place ≡ true → NothingWaits b (s.buffers t)) × (effect b s t (action p.threads t (s.locals t)) ≡ Some z)
  made true s z t e =
      let (h, r) = empty_if_past (gaps t (s.locals t).place) (s.buffers t) s z (λ x. buffered x t (action p.threads t (s.locals t))) e in
      ((λ g is. h g), r)
  made false s z t e = ((λ g is. absurd cc), e)

-- other threads keep their states and their buffers
module _ (t u : ℕ) (other : u ≡ t → ⊥) where
  pub record Keeps (s z : State) : Type 0 where
    pub local : z.locals u ≡ s.locals u
    pub buffer : z.buffers u ≡ s.buffers u

  -- a state in which thread t alone has gone on
  keeps : (s z : State) (next : Local) (buffers : ℕ → List Pending) (memory : ℕ → ℕ) → buffers u ≡ s.buffers u →
      ◌≡◌ {A = Option State} (Some (record { locals = put s.locals t next; buffers = buffers; memory = memory })) (Some z) → Keeps s z
  keeps s z next buffers memory same e =
      let q : record { locals = put s.locals t next; buffers = buffers; memory = memory } ≡ z = same_Some _ z e in
      record {
        local = ap (λ (x : State). x.locals u) (sym q) ∙ put_other s.locals t next u other;
        buffer = ap (λ (x : State). x.buffers u) (sym q) ∙ same;
      }

  -- what waited for an empty buffer was made
  some_when_empty : (ws : List Pending) (s z : State) → when_empty ws s ≡ Some z → ◌≡◌ {A = Option State} (Some s) (Some z)
  some_when_empty [] s z e = e
  some_when_empty (w ∷ ws) s z e = absurd cc

  -- whatever the action of thread t
  pub others_keep : (waits : Bool) (s z : State) (a : Action) → effect waits s t a ≡ Some z → Keeps s z
  others_keep true s z Stop e = absurd cc
  others_keep true s z (Go next) e = keeps s z next s.buffers s.memory refl e
  others_keep true s z (Wait next) e = keeps s z next s.buffers s.memory refl (some_when_empty (s.buffers t) _ z e)
  others_keep true s z (Read l to next) e = keeps s z _ s.buffers s.memory refl e
  others_keep true s z (Write l v next) e = keeps s z next _ s.memory (put_other s.buffers t _ u other) e
  others_keep true s z (Swap l v to next) e = keeps s z (loaded to (s.memory l) next) s.buffers (put s.memory l v) refl (some_when_empty (s.buffers t) _ z e)
  others_keep false s z Stop e = absurd cc
  others_keep false s z (Go next) e = keeps s z next s.buffers s.memory refl e
  others_keep false s z (Wait next) e = keeps s z next s.buffers s.memory refl e
  others_keep false s z (Read l to next) e = keeps s z (loaded to (s.memory l) next) s.buffers s.memory refl e
  others_keep false s z (Write l v next) e = keeps s z next s.buffers (put s.memory l v) refl e
  others_keep false s z (Swap l v to next) e = keeps s z (loaded to (s.memory l) next) s.buffers (put s.memory l v) refl e

-- a thread that makes a step stands at an instruction
stop_has_none : (waits : Bool) (s : State) (t : ℕ) → effect waits s t Stop ≡ None
stop_has_none true s t = refl
stop_has_none false s t = refl

pub stands_at : (p : Listing) (waits : Bool) (s z : State) (t : ℕ) → effect waits s t (action p.threads t (s.locals t)) ≡ Some z →
    (x : Instr) × (instr_at p.threads t (s.locals t).place ≡ Some x)
stands_at p waits s z t e = by_instruction (instr_at p.threads t (s.locals t).place) refl
  where
    by_instruction : (o : Option Instr) → instr_at p.threads t (s.locals t).place ≡ o → (x : Instr) × (instr_at p.threads t (s.locals t).place ≡ Some x)
    by_instruction (Some x) q = (x, q)
    by_instruction None q = absurd (let no : None ≡ Some z = sym (stop_has_none waits s t) ∙ ap (λ o. effect waits s t (act o (s.locals t))) (sym q) ∙ e in cc)

-- the state with the oldest store of a buffer in memory
abbrev pub stored : State → ℕ → Pending → List Pending → State
stored s t w ws = record s { buffers = put s.buffers t ws; memory = put s.memory w.location w.value }

-- a store is flushed where stores wait, and one does
pub record Flushes (waits : Bool) (s z : State) (t : ℕ) : Type 0 where
  pub buffered : waits ≡ true
  pub oldest : Pending
  pub others : List Pending
  pub waiting : s.buffers t ≡ oldest ∷ others
  pub result : z ≡ stored s t oldest others

-- a flush that was made
pub flush_made : (p : Listing) (gaps : Gaps) (waits : Bool) (s z : State) (t : ℕ) → step p (mode_with waits gaps) s (Flush t) ≡ Some z → Flushes waits s z t
flush_made p gaps false s z t e = absurd cc
flush_made p gaps true s z t e = by_buffer (s.buffers t) refl e
  where
    by_buffer : (ws : List Pending) → s.buffers t ≡ ws → flushed s t ws ≡ Some z → Flushes true s z t
    by_buffer [] q e = absurd cc
    by_buffer (w ∷ ws) q e = record { buffered = refl; oldest = w; others = ws; waiting = q; result = sym (same_Some _ z e) }

-- a flush that can be made
pub flush_makes : (p : Listing) (gaps : Gaps) (waits : Bool) (s : State) (t : ℕ) (w : Pending) (ws : List Pending) → waits ≡ true → s.buffers t ≡ w ∷ ws →
    step p (mode_with waits gaps) s (Flush t) ≡ Some (stored s t w ws)
flush_makes p gaps false s t w ws b e = absurd cc
flush_makes p gaps true s t w ws b e = ap (flushed s t) e
