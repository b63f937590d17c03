-- What the equality of threads decides.
use Rattle.tso_program.proofs.Vocabulary.{◌≡◌, ◌==◌, ◌&&◌, Bool, true, false, true≢false, ap, refl, sym, subst, Decides, rules, and_parts, and_from, Decides-like, Decides-and, Decides-eqb, pointwise, nat_eq, slice_eq-Decides, Reg, Eax, Instr, LoadImm, Copy}
use Rattle.tso_program.proofs.Vocabulary.{Load, StoreImm, Store, Xchg, Fence, CmpImm, CmpReg, Je, Jne, Jmp, Thread}
use Rattle.tso_program.specs.contracts.instruction.RegPartialEq.TheImpl as reg
use Rattle.tso_program.specs.contracts.instruction.InstrPartialEq.TheImpl as instr
use Rattle.tso_program.specs.contracts.listing.ThreadPartialEq.TheImpl as thread

reg_decides : (r s : Reg) → Decides (reg.ghosts.eq r s) (r ≡ s)
reg_decides Eax s = search rules
reg_decides r s = search rules

-- two fields of which each is equal
module _ {X Y : Type 0} (C : X → Y → Instr) where
  two : {a c : X} {b d : Y} (x y : Bool) → Decides x (a ≡ c) → Decides y (b ≡ d) → (x && y) ≡ true → C a b ≡ C c d
  two x y p q h = let t = and_parts x y h in λ i. C (p.0 t.0 i) (q.0 t.1 i)

none : {x y : Instr} → false ≡ true → x ≡ y
none h = absurd (true≢false (sym h))

both : {X Y : Type 0} {a : X} {b : Y} (x y : Bool) → Decides x (a ≡ a) → Decides y (b ≡ b) → (x && y) ≡ true
both x y p q = and_from x y (p.1 refl) (q.1 refl)

-- instructions of one kind, with equal fields
instr_same : (x y : Instr) → instr.ghosts.eq x y ≡ true → x ≡ y
instr_same (LoadImm a b) (LoadImm c d) h = two LoadImm (reg.ghosts.eq a c) (b == d) (reg_decides a c) (Decides-eqb b d) h
instr_same (Copy a b) (Copy c d) h = two Copy (reg.ghosts.eq a c) (reg.ghosts.eq b d) (reg_decides a c) (reg_decides b d) h
instr_same (Load a b) (Load c d) h = two Load (reg.ghosts.eq a c) (b == d) (reg_decides a c) (Decides-eqb b d) h
instr_same (StoreImm a b) (StoreImm c d) h = two StoreImm (a == c) (b == d) (Decides-eqb a c) (Decides-eqb b d) h
instr_same (Store a b) (Store c d) h = two Store (a == c) (reg.ghosts.eq b d) (Decides-eqb a c) (reg_decides b d) h
instr_same (Xchg a b) (Xchg c d) h = two Xchg (a == c) (reg.ghosts.eq b d) (Decides-eqb a c) (reg_decides b d) h
instr_same Fence Fence h = refl
instr_same (CmpImm a b) (CmpImm c d) h = two CmpImm (reg.ghosts.eq a c) (b == d) (reg_decides a c) (Decides-eqb b d) h
instr_same (CmpReg a b) (CmpReg c d) h = two CmpReg (reg.ghosts.eq a c) (reg.ghosts.eq b d) (reg_decides a c) (reg_decides b d) h
instr_same (Je a) (Je c) h = ap Je ((Decides-eqb a c).0 h)
instr_same (Jne a) (Jne c) h = ap Jne ((Decides-eqb a c).0 h)
instr_same (Jmp a) (Jmp c) h = ap Jmp ((Decides-eqb a c).0 h)
instr_same x y h = none h

instr_itself : (x : Instr) → instr.ghosts.eq x x ≡ true
instr_itself (LoadImm a b) = both (reg.ghosts.eq a a) (b == b) (reg_decides a a) (Decides-eqb b b)
instr_itself (Copy a b) = both (reg.ghosts.eq a a) (reg.ghosts.eq b b) (reg_decides a a) (reg_decides b b)
instr_itself (Load a b) = both (reg.ghosts.eq a a) (b == b) (reg_decides a a) (Decides-eqb b b)
instr_itself (StoreImm a b) = both (a == a) (b == b) (Decides-eqb a a) (Decides-eqb b b)
instr_itself (Store a b) = both (a == a) (reg.ghosts.eq b b) (Decides-eqb a a) (reg_decides b b)
instr_itself (Xchg a b) = both (a == a) (reg.ghosts.eq b b) (Decides-eqb a a) (reg_decides b b)
instr_itself Fence = refl
instr_itself (CmpImm a b) = both (reg.ghosts.eq a a) (b == b) (reg_decides a a) (Decides-eqb b b)
instr_itself (CmpReg a b) = both (reg.ghosts.eq a a) (reg.ghosts.eq b b) (reg_decides a a) (reg_decides b b)
instr_itself (Je a) = (Decides-eqb a a).1 refl
instr_itself (Jne a) = (Decides-eqb a a).1 refl
instr_itself (Jmp a) = (Decides-eqb a a).1 refl

parts_decide : (a b : Thread) → Decides (thread.ghosts.eq a b) ((a.code ≡ b.code) × (a.registers ≡ b.registers))
parts_decide a b =
    Decides-and (pointwise instr.ghosts.eq a.code b.code) (pointwise nat_eq a.registers b.registers)
    (slice_eq-Decides (λ x y. (instr_same x y, λ e. subst (λ z. instr.ghosts.eq x z ≡ true) e (instr_itself x))) a.code b.code (pointwise instr.ghosts.eq a.code b.code) refl)
    (slice_eq-Decides Decides-eqb a.registers b.registers (pointwise nat_eq a.registers b.registers) refl)

pub thread_decides : (a b : Thread) → Decides (thread.ghosts.eq a b) (a ≡ b)
thread_decides a b =
    Decides-like (thread.ghosts.eq a b)
    (λ (t : (a.code ≡ b.code) × (a.registers ≡ b.registers)) i. record { code = t.0 i; registers = t.1 i })
    (λ (e : a ≡ b). (ap (λ (s : Thread). s.code) e, ap (λ (s : Thread). s.registers) e))
    (parts_decide a b)
