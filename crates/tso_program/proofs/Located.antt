-- The location that an action names is one of the program's.
use Rattle.tso_program.proofs.Vocabulary.{◌≡◌, ℕ, List, length, Some, refl, Instr, Load, StoreImm, Store, Xchg, Thread, instr_at, IsWithinLimits, act, IsLocated}
use Rattle.tso_program.specs.declared.action.Local.{Local}

pub act_located : (threads : List Thread) (memory : List ℕ) (t k : ℕ) (x : Instr) (s : Local) → IsWithinLimits threads memory → instr_at threads t k ≡ Some x → IsLocated (length memory) (act (Some x) s)
act_located threads memory t k (Load r l) s w e = w.shared.located t k l (Load r l) e refl
act_located threads memory t k (StoreImm l v) s w e = w.shared.located t k l (StoreImm l v) e refl
act_located threads memory t k (Store l r) s w e = w.shared.located t k l (Store l r) e refl
act_located threads memory t k (Xchg l r) s w e = w.shared.located t k l (Xchg l r) e refl
act_located threads memory t k x s w e = tt
