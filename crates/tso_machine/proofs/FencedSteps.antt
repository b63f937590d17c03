-- A step of the fenced program: its fence, or the step of the instruction.
use Rattle.std.proofs.Common.{◌≡◌, ℕ, ◌+◌, Bool, true, false, List, [], ◌∷◌, ◌++◌, Option, Some, refl, sym, ap, ◌∙◌}
use Rattle.std.specs.Option.{option_map}
use Rattle.tso_program.specs.declared.instruction.Instr.{Instr}
use Rattle.tso_program.specs.declared.instruction.Instr.TheVariants.{Fence}
use Rattle.tso_program.specs.declared.listing.Listing.{Listing}
use Rattle.tso_program.specs.declared.action.Local.{Local}
use Rattle.tso_program.specs.declared.action.Action.{Action, TheVariants.Stop, TheVariants.Go, TheVariants.Wait, TheVariants.Read, TheVariants.Write, TheVariants.Swap}
use Rattle.tso_program.specs.Actions.{act, loaded, onward}
use Rattle.tso_program.specs.Listings.{action, instr_at}
use Rattle.tso_program.specs.Fences.{Gaps}
use Rattle.tso_program.specs.Fences.{place_of, moved, fence}
use Rattle.tso_machine.specs.declared.label.Label.{TheVariants.Exec}
use Rattle.tso_machine.specs.declared.label.Pending.{Pending}
use Rattle.tso_machine.specs.Machine.{no_gaps, State, put, newest, found, when_empty, step}
use Rattle.tso_machine.proofs.{ChangedAt.put_same, EitherMachine.mode_with, EitherMachine.effect, FencedActions.placed, FencedActions.fenced_action, FencedActions.act_moved}

-- the state with other threads' states
abbrev pub with_locals : State → (ℕ → Local) → State
with_locals s locals = record s { locals = locals }

-- thread t of the fenced program stands before the fence of where the thread stands
abbrev pub follow : (ℕ → Bool) → ℕ → (ℕ → Local) → State → State
follow gap t locals z = with_locals z (put locals t (placed gap (z.locals t)))

-- an action leads to the same buffers and memory from other threads' states
module _ (gap : ℕ → Bool) (locals : ℕ → Local) (t : ℕ) where
  -- a state in which thread t has gone on
  followed : (f : ℕ → Local) (next : Local) (buffers : ℕ → List Pending) (memory : ℕ → ℕ) →
      ◌≡◌ {A = Option State} (Some (record { locals = put locals t (placed gap next); buffers = buffers; memory = memory }))
      (Some (follow gap t locals (record { locals = put f t next; buffers = buffers; memory = memory })))
  followed f next buffers memory =
      ap (λ (x : Local). Some (record { locals = put locals t (placed gap x); buffers = buffers; memory = memory })) (sym (put_same f t next))

  -- where the action waits for an empty buffer
  followed_when_empty : (ws : List Pending) (s z : State) → ◌≡◌ {A = Option State} (Some z) (Some (follow gap t locals s)) → when_empty ws z ≡ option_map (follow gap t locals) (when_empty ws s)
  followed_when_empty [] s z e = e
  followed_when_empty (w ∷ ws) s z e = refl

  -- whatever the action
  pub effect_follows : (waits : Bool) (s : State) (a : Action) →
      effect waits (with_locals s locals) t (fenced_action gap a) ≡ option_map (follow gap t locals) (effect waits s t a)
  effect_follows true s Stop = refl
  effect_follows true s (Go next) = followed s.locals next s.buffers s.memory
  effect_follows true s (Wait next) = followed_when_empty (s.buffers t) _ _ (followed s.locals next s.buffers s.memory)
  effect_follows true s (Read l to next) = followed s.locals (loaded to (found (newest l (s.buffers t)) (s.memory l)) next) s.buffers s.memory
  effect_follows true s (Write l v next) = followed s.locals next (put s.buffers t (s.buffers t ++ record { location = l; value = v } ∷ [])) s.memory
  effect_follows true s (Swap l v to next) = followed_when_empty (s.buffers t) _ _ (followed s.locals (loaded to (s.memory l) next) s.buffers (put s.memory l v))
  effect_follows false s Stop = refl
  effect_follows false s (Go next) = followed s.locals next s.buffers s.memory
  effect_follows false s (Wait next) = followed s.locals next s.buffers s.memory
  effect_follows false s (Read l to next) = followed s.locals (loaded to (s.memory l) next) s.buffers s.memory
  effect_follows false s (Write l v next) = followed s.locals next s.buffers (put s.memory l v)
  effect_follows false s (Swap l v to next) = followed s.locals (loaded to (s.memory l) next) s.buffers (put s.memory l v)

module _ (p : Listing) (gaps : Gaps) (waits : Bool) (s : State) (locals : ℕ → Local) (t : ℕ) where
  -- with no gap fenced the step is what the instruction does
  plain_step : (b : Bool) (z : State) → step (fence gaps p) (mode_with b no_gaps) z (Exec t) ≡ effect b z t (action (fence gaps p).threads t (z.locals t))
  plain_step true z = refl
  plain_step false z = refl

  -- the step of a fence
  pub fence_step : instr_at (fence gaps p).threads t (locals t).place ≡ Some Fence →
      step (fence gaps p) (mode_with waits no_gaps) (with_locals s locals) (Exec t) ≡ effect waits (with_locals s locals) t (Wait (onward (locals t)))
  fence_step e = plain_step waits (with_locals s locals) ∙ ap (λ o. effect waits (with_locals s locals) t (act o (locals t))) e

  -- the step of an instruction that was moved
  pub instruction_step : (x : Instr) (q : ℕ) → instr_at p.threads t (s.locals t).place ≡ Some x → locals t ≡ record (s.locals t) { place = q } →
      instr_at (fence gaps p).threads t q ≡ Some (moved (gaps t) x) → q + 1 ≡ place_of (gaps t) ((s.locals t).place + 1) →
      step (fence gaps p) (mode_with waits no_gaps) (with_locals s locals) (Exec t) ≡ option_map (follow (gaps t) t locals) (effect waits s t (action p.threads t (s.locals t)))
  instruction_step x q here stands there next =
      plain_step waits (with_locals s locals)
      ∙ ap (λ (l : Local). effect waits (with_locals s locals) t (act (instr_at (fence gaps p).threads t l.place) l)) stands
      ∙ ap (λ o. effect waits (with_locals s locals) t (act o (record (s.locals t) { place = q }))) there
      ∙ ap (effect waits (with_locals s locals) t) (act_moved (gaps t) (s.locals t) q next x)
      ∙ effect_follows (gaps t) locals t waits s (act (Some x) (s.locals t))
      ∙ ap (λ o. option_map (follow (gaps t) t locals) (effect waits s t (act o (s.locals t)))) (sym here)
