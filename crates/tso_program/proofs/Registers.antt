-- The numbers of registers.
use Rattle.tso_program.proofs.Vocabulary.{◌≡◌, ◌==◌, ℕ, ◌<◌, refl, sym, ap, ◌∙◌, arith, if◌then◌else◌, Reg, Eax, Ebx, Ecx, Edx, Esi, Edi, number, REGISTERS}

pub small_number : (r : Reg) → number r < REGISTERS
small_number Eax = omega arith
small_number r = omega arith

reg_back : ℕ → Reg
reg_back n = if n == 0 then Eax else if n == 1 then Ebx else if n == 2 then Ecx else if n == 3 then Edx else if n == 4 then Esi else Edi

reg_again : (r : Reg) → reg_back (number r) ≡ r
unfolding reg_back
reg_again Eax = refl
reg_again r = refl

pub same_register : (r s : Reg) → number r ≡ number s → r ≡ s
same_register r s e = sym (reg_again r) ∙ ap reg_back e ∙ reg_again s
