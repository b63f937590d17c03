-- The definitions at store buffering, each of whose instructions is executed, and at a branch that no sequential run takes.
use Rattle.std.specs.Prelude.{ℕ, [], ◌∷◌}
use Rattle.tso_program.specs.declared.instruction.Reg.TheVariants.{Eax}
use Rattle.tso_program.specs.declared.instruction.Instr.{TheVariants.StoreImm, TheVariants.CmpImm, TheVariants.Jne}
use Rattle.tso_program.specs.declared.listing.Listing.{Listing}
use Rattle.tso_machine.specs.Examples.{store_buffering, thread_of}
use Rattle.sequential_states.specs.Executions.{IsExecuted}

-- each of the four instructions is executed
abbrev pub StoreBufferingIsExecuted : Type 0
StoreBufferingIsExecuted = IsExecuted store_buffering 0 0 × IsExecuted store_buffering 0 1 × IsExecuted store_buffering 1 0 × IsExecuted store_buffering 1 1

-- EAX is 0, so the jump past the store is not taken if EAX is compared with 0, and taken if it is compared with 1
abbrev pub looks_for : ℕ → Listing
looks_for v = record { threads = thread_of (CmpImm Eax v ∷ Jne 3 ∷ StoreImm 0 1 ∷ []) ∷ []; memory = 0 ∷ [] }

-- one of the two stores is executed, and the other is not
abbrev pub ABranchIsTold : Type 0
ABranchIsTold = IsExecuted (looks_for 0) 0 2 × (IsExecuted (looks_for 1) 0 2 → ⊥)
