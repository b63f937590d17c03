-- Reads whose sources are all there, whatever the threads read next (this project's own definitions; docs/definitions.md).
use Rattle.std.specs.Prelude.{◌≡◌, ◌≢◌, ℕ, ◌≤◌, Some, IsSome, ◌⊎◌}
use Rattle.tso_program.specs.declared.instruction.Reg.{Reg}
use Rattle.tso_program.specs.declared.instruction.Instr.{Instr, TheVariants.StoreImm, TheVariants.Store, TheVariants.Xchg}
use Rattle.tso_program.specs.declared.listing.Listing.{Listing}
use Rattle.tso_program.specs.Listings.{instr_at}
use Rattle.tso_machine.specs.Machine.{Machine}
use Rattle.candidate_executions.specs.declared.access.Access.{Access}
use Rattle.candidate_executions.specs.declared.event.Event.{Event, TheVariants.Initial, TheVariants.Access as At}
use Rattle.candidate_executions.specs.Traces.{trace_by}
use Rattle.candidate_executions.specs.Candidates.{access_by}
use Rattle.candidate_executions.specs.Sketches.{Sketch, given_to, next_read}

-- the instruction may store v to the location: as an immediate, or from a register, which may hold v
abbrev pub MayStore : Instr → ℕ → ℕ → Type 0
MayStore x l v = (x ≡ StoreImm l v) ⊎ ((r : Reg) × ((x ≡ Store l r) ⊎ (x ≡ Xchg l r)))

-- Thread u may still write v to the location: it has a next read, and where it stops or later such an instruction. Jumps lead forward.
pub record MayStillWrite (p : Listing) (mode : Machine) (k : Sketch) (u l v : ℕ) : Type 0 where
  pub goes_on : IsSome (next_read p mode k u)
  pub place : ℕ
  pub is_ahead : (trace_by p mode (given_to k) u).last.place ≤ place
  pub instruction : Instr
  pub is_there : instr_at p.threads u place ≡ Some instruction
  pub may_store : MayStore instruction l v

-- the event is no access of thread u
abbrev pub IsOfOther : ℕ → Event → Type 0
IsOfOther u (Initial l) = Unit {0}
IsOfOther u (At t i) = u ≢ t

-- no thread but its own may still write what the read e has read
abbrev pub IsSettled : Listing → Machine → Sketch → Event → Type 0
IsSettled p mode k e = (x : Access) (v u : ℕ) → access_by p mode (given_to k) e ≡ Some x → x.read ≡ Some v → IsOfOther u e → ¬ MayStillWrite p mode k u x.location v
