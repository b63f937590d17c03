-- Registers and instructions.
use Rattle.std.specs.Prelude.{ℕ, Option, Some, None}
use Rattle.tso_program.specs.declared.instruction.Reg.{Reg, TheVariants.Eax, TheVariants.Ebx, TheVariants.Ecx, TheVariants.Edx, TheVariants.Esi, TheVariants.Edi}
use Rattle.tso_program.specs.declared.instruction.Instr.{Instr}
use Rattle.tso_program.specs.declared.instruction.Instr.TheVariants.{LoadImm, Copy, Load, StoreImm, Store, Xchg, Fence, CmpImm, CmpReg, Je, Jne, Jmp}

-- a register's number
abbrev pub number : Reg → ℕ
number Eax = 0
number Ebx = 1
number Ecx = 2
number Edx = 3
number Esi = 4
number Edi = 5

-- the location that an instruction reads or writes
abbrev pub location_of : Instr → Option ℕ
location_of (Load r l) = Some l
location_of (StoreImm l v) = Some l
location_of (Store l r) = Some l
location_of (Xchg l r) = Some l
location_of (LoadImm r v) = None
location_of (Copy r s) = None
location_of Fence = None
location_of (CmpImm r v) = None
location_of (CmpReg r s) = None
location_of (Je k) = None
location_of (Jne k) = None
location_of (Jmp k) = None

-- where an instruction may jump to
abbrev pub target_of : Instr → Option ℕ
target_of (Je k) = Some k
target_of (Jne k) = Some k
target_of (Jmp k) = Some k
target_of (Load r l) = None
target_of (StoreImm l v) = None
target_of (Store l r) = None
target_of (Xchg l r) = None
target_of (LoadImm r v) = None
target_of (Copy r s) = None
target_of Fence = None
target_of (CmpImm r v) = None
target_of (CmpReg r s) = None
