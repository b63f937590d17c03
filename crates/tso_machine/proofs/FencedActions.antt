-- What a moved instruction does is what the instruction does, at the places of the fenced thread.
use Rattle.std.proofs.Common.{◌≡◌, ℕ, ◌+◌, Bool, true, false, not, Option, Some, None, refl, ap}
use Rattle.tso_program.specs.declared.instruction.Instr.{Instr}
use Rattle.tso_program.specs.declared.instruction.Instr.TheVariants.{LoadImm, Copy, Load, StoreImm, Store, Xchg, Fence, CmpImm, CmpReg, Je, Jne, Jmp}
use Rattle.tso_program.specs.declared.action.Local.{Local}
use Rattle.tso_program.specs.declared.action.Action.{Action, TheVariants.Stop, TheVariants.Go, TheVariants.Wait, TheVariants.Read, TheVariants.Write, TheVariants.Swap}
use Rattle.tso_program.specs.Fences.{place_of}
use Rattle.tso_program.specs.Fences.{moved}
use Rattle.tso_program.specs.Actions.{act, loaded, compared, jumped, value_in}

-- the state at the same instruction of the fenced thread, before its fence
abbrev pub placed : (ℕ → Bool) → Local → Local
placed gap s = record s { place = place_of gap s.place }

-- the action, leading to the same instruction of the fenced thread
abbrev pub fenced_action : (ℕ → Bool) → Action → Action
fenced_action gap Stop = Stop
fenced_action gap (Go next) = Go (placed gap next)
fenced_action gap (Wait next) = Wait (placed gap next)
fenced_action gap (Read l to next) = Read l to (placed gap next)
fenced_action gap (Write l v next) = Write l v (placed gap next)
fenced_action gap (Swap l v to next) = Swap l v to (placed gap next)

module _ (gap : ℕ → Bool) (s : Local) (q : ℕ) (e : q + 1 ≡ place_of gap (s.place + 1)) where
  -- a jump, taken or not
  jump_moved : (taken : Bool) (k : ℕ) → jumped taken (place_of gap k) (record s { place = q }) ≡ placed gap (jumped taken k s)
  jump_moved true k = refl
  jump_moved false k = ap (λ (n : ℕ). record s { place = n }) e

  -- from place q, the last before the next instruction
  pub act_moved : (x : Instr) → act (Some (moved gap x)) (record s { place = q }) ≡ fenced_action gap (act (Some x) s)
  act_moved (LoadImm r v) = ap (λ (n : ℕ). Go (loaded r v (record s { place = n }))) e
  act_moved (Copy r from) = ap (λ (n : ℕ). Go (loaded r (value_in s from) (record s { place = n }))) e
  act_moved (Load r l) = ap (λ (n : ℕ). Read l r (record s { place = n })) e
  act_moved (StoreImm l v) = ap (λ (n : ℕ). Write l v (record s { place = n })) e
  act_moved (Store l r) = ap (λ (n : ℕ). Write l (value_in s r) (record s { place = n })) e
  act_moved (Xchg l r) = ap (λ (n : ℕ). Swap l (value_in s r) r (record s { place = n })) e
  act_moved Fence = ap (λ (n : ℕ). Wait (record s { place = n })) e
  act_moved (CmpImm r v) = ap (λ (n : ℕ). Go (compared (value_in s r) v (record s { place = n }))) e
  act_moved (CmpReg r from) = ap (λ (n : ℕ). Go (compared (value_in s r) (value_in s from) (record s { place = n }))) e
  act_moved (Je k) = ap Go (jump_moved s.flag k)
  act_moved (Jne k) = ap Go (jump_moved (not s.flag) k)
  act_moved (Jmp k) = refl

-- an instruction does something
pub never_stops : (x : Instr) (s : Local) → act (Some x) s ≡ Stop → ⊥
never_stops (LoadImm r v) s e = cc
never_stops x s e = cc

-- where a thread stops there is no instruction
pub stops_at_none : (o : Option Instr) (s : Local) → act o s ≡ Stop → o ≡ None
stops_at_none None s e = refl
stops_at_none (Some x) s e = absurd (never_stops x s e)
