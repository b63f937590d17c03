-- Which registers an instruction sets, and where it leads (Aho, Lam, Sethi and Ullman, Compilers, 9.2: definitions, and the flow graph).
use Rattle.std.specs.Prelude.{◌≡◌, ◌⊎◌, ℕ, ◌+◌}
use Rattle.tso_program.specs.declared.instruction.Instr.{Instr}
use Rattle.tso_program.specs.declared.instruction.Instr.TheVariants.{LoadImm, Copy, Load, Xchg, Je, Jne, Jmp}
use Rattle.tso_program.specs.Instructions.{number}

-- an instruction puts a value into register i
abbrev pub Sets : Instr → ℕ → Type 0
Sets (LoadImm r v) i = number r ≡ i
Sets (Copy r from) i = number r ≡ i
Sets (Load r l) i = number r ≡ i
Sets (Xchg l r) i = number r ≡ i
Sets x i = ⊥

-- instruction k may lead to place j: the next one, or where it jumps to
abbrev pub LeadsTo : Instr → ℕ → ℕ → Type 0
LeadsTo (Je target) k j = (target ≡ j) ⊎ (k + 1 ≡ j)
LeadsTo (Jne target) k j = (target ≡ j) ⊎ (k + 1 ≡ j)
LeadsTo (Jmp target) k j = target ≡ j
LeadsTo x k j = k + 1 ≡ j
