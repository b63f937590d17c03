-- Dead loads, and the program without them (dead-code elimination that keeps each instruction's place).
use Rattle.std.specs.Prelude.{◌≡◌, ◌↔◌, ℕ, ◌+◌, Bool, true, List, [], ◌∷◌, Some, if◌then◌else◌}
use Rattle.tso_program.specs.declared.instruction.Reg.{Reg}
use Rattle.tso_program.specs.declared.instruction.Instr.{Instr}
use Rattle.tso_program.specs.declared.instruction.Instr.TheVariants.{Copy, Load}
use Rattle.tso_program.specs.declared.listing.Thread.{Thread}
use Rattle.tso_program.specs.declared.listing.Listing.{Listing}
use Rattle.tso_program.specs.declared.shown.Shown.{Shown}
use Rattle.tso_program.specs.Instructions.{number}
use Rattle.tso_program.specs.Listings.{instr_at}
use Rattle.dataflow_laws.specs.Liveness.{Live}

-- a set of places: whether instruction k of thread t is in it
abbrev pub Places : Type 0
Places = ℕ → ℕ → Bool

-- a load in the set becomes a copy of its register onto itself
abbrev pub dropped : Bool → Instr → Instr
dropped here (Load r l) = if here then Copy r r else Load r l
dropped here x = x

-- the instructions from instruction k on
abbrev pub dropped_code : (ℕ → Bool) → ℕ → List Instr → List Instr
dropped_code here k [] = []
dropped_code here k (x ∷ xs) = dropped (here k) x ∷ dropped_code here (k + 1) xs

-- the threads from thread t on
abbrev pub dropped_threads : Places → ℕ → List Thread → List Thread
dropped_threads here t [] = []
dropped_threads here t (thread ∷ threads) =
    record { code = dropped_code (here t) 0 thread.code; registers = thread.registers } ∷ dropped_threads here (t + 1) threads

-- the program without the loads of the set: as many instructions, and so the same gaps
abbrev pub drop_loads : Places → Listing → Listing
drop_loads here p = record { threads = dropped_threads here 0 p.threads; memory = p.memory }

-- a load whose register is not live after it
abbrev pub IsDeadLoad : Listing → Shown → ℕ → ℕ → Type 0
IsDeadLoad p shown t k = (r : Reg) × (l : ℕ) × (instr_at p.threads t k ≡ Some (Load r l)) × (Live p shown t (k + 1) (number r) → ⊥)

-- the set has dead loads alone
abbrev pub AreDead : Listing → Shown → Places → Type 0
AreDead p shown here = (t k : ℕ) → here t k ≡ true → IsDeadLoad p shown t k

-- the set has each dead load, and nothing else
abbrev pub AreAllDead : Listing → Shown → Places → Type 0
AreAllDead p shown here = (t k : ℕ) → (here t k ≡ true) ↔ IsDeadLoad p shown t k

-- the program without its dead loads, each of them, where this is shown of its outcomes
abbrev pub IsWithoutDeadLoads : Listing → Shown → Listing → Type 0
IsWithoutDeadLoads p shown slim = (here : Places) × AreAllDead p shown here × (slim ≡ drop_loads here p)
