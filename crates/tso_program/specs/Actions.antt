-- What an instruction does in its thread, and what it asks of memory (Sewell et al., CACM 2010, section 3).
use Rattle.std.specs.Prelude.{ℕ, ◌+◌, ◌<◌, ◌==◌, Bool, true, not, Option, Some, None, slice_index, slice_set, if◌then◌else◌}
use Rattle.tso_program.specs.declared.instruction.Reg.{Reg}
use Rattle.tso_program.specs.declared.instruction.Instr.{Instr}
use Rattle.tso_program.specs.declared.instruction.Instr.TheVariants.{LoadImm, Copy, Load, StoreImm, Store, Xchg, Fence, CmpImm, CmpReg, Je, Jne, Jmp}
use Rattle.tso_program.specs.declared.action.Local.{Local}
use Rattle.tso_program.specs.declared.action.Action.{Action, TheVariants.Stop, TheVariants.Go, TheVariants.Wait, TheVariants.Read, TheVariants.Write, TheVariants.Swap}
use Rattle.tso_program.specs.Instructions.{number}

-- what a register holds
abbrev pub value_in : Local → Reg → ℕ
value_in s r = slice_index s.registers (number r)

-- the state with a value put into a register
abbrev pub loaded : Reg → ℕ → Local → Local
loaded r v s = record s { registers = slice_set s.registers (number r) v }

-- the state at the next instruction
abbrev pub onward : Local → Local
onward s = record s { place = s.place + 1 }

-- the state after a jump that is taken or not
abbrev pub jumped : Bool → ℕ → Local → Local
jumped taken k s = if taken then record s { place = k } else onward s

-- the state with the zero flag set exactly when the operands are equal
abbrev pub compared : ℕ → ℕ → Local → Local
compared x y s = record s { flag = x == y }

-- what an instruction does in a thread's state; past the last one the thread stands still
abbrev pub act : Option Instr → Local → Action
act None s = Stop
act (Some (LoadImm r v)) s = Go (loaded r v (onward s))
act (Some (Copy r from)) s = Go (loaded r (value_in s from) (onward s))
act (Some (Load r l)) s = Read l r (onward s)
act (Some (StoreImm l v)) s = Write l v (onward s)
act (Some (Store l r)) s = Write l (value_in s r) (onward s)
act (Some (Xchg l r)) s = Swap l (value_in s r) r (onward s)
act (Some Fence) s = Wait (onward s)
act (Some (CmpImm r v)) s = Go (compared (value_in s r) v (onward s))
act (Some (CmpReg r from)) s = Go (compared (value_in s r) (value_in s from) (onward s))
act (Some (Je k)) s = Go (jumped s.flag k s)
act (Some (Jne k)) s = Go (jumped (not s.flag) k s)
act (Some (Jmp k)) s = Go (jumped true k s)

-- the location that an action names is one of so many
abbrev pub IsLocated : ℕ → Action → Type 0
IsLocated locations Stop = Unit {0}
IsLocated locations (Go next) = Unit {0}
IsLocated locations (Wait next) = Unit {0}
IsLocated locations (Read l to next) = l < locations
IsLocated locations (Write l v next) = l < locations
IsLocated locations (Swap l v to next) = l < locations
