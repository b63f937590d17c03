-- The machine's state as the code keeps it: a list of threads, and a list of what the locations hold.
use Rattle.std.specs.Prelude.{◌≡◌, ℕ, ◌<◌, Bool, true, false, ◌&&◌, ◌||◌, not, List, [], ◌∷◌, ◌++◌, map, length, slice_index, slice_index_or, slice_set, Option, Some, None, if◌then◌else◌}
use Rattle.tso_program.specs.declared.listing.Thread.{Thread}
use Rattle.tso_program.specs.Listings.{gap_number, action}
use Rattle.tso_program.specs.declared.listing.Listing.{Listing}
use Rattle.tso_program.specs.declared.action.Local.{Local}
use Rattle.tso_program.specs.declared.action.Action.{Action, TheVariants.Stop, TheVariants.Go, TheVariants.Wait, TheVariants.Read, TheVariants.Write, TheVariants.Swap}
use Rattle.tso_program.specs.Actions.{loaded}
use Rattle.tso_machine.specs.declared.label.Label.{Label, TheVariants.Exec, TheVariants.Flush}
use Rattle.tso_machine.specs.declared.label.Pending.{Pending}
use Rattle.tso_machine.specs.declared.label.Cause.TheVariants.{FenceWaits}
use Rattle.tso_machine.specs.declared.label.StepFault.{StepFault}
use Rattle.tso_machine.specs.declared.label.StepFault.TheVariants as step
use Rattle.tso_machine.specs.declared.label.Model.{Model}
use Rattle.tso_machine.specs.declared.label.Model.TheVariants as models
use Rattle.tso_machine.specs.Machine.{State, newest, found, is_empty}
use Rattle.tso_machine.specs.Faults.{waits}

-- a thread and its waiting stores, the oldest first
pub record Core : Type 0 where
  pub local : Local
  pub buffer : List Pending

pub record Cores : Type 0 where
  pub cores : List Core
  pub memory : List ℕ

-- what stands for a thread that is not there
abbrev pub no_core : Core
no_core = record { local = record { place = 0; registers = []; flag = false }; buffer = [] }

abbrev pub core_at : List Core → ℕ → Core
core_at cores t = slice_index_or cores t no_core

-- the machine's state
abbrev pub state_of : Cores → State
state_of s = record { locals = λ t. (core_at s.cores t).local; buffers = λ t. (core_at s.cores t).buffer; memory = slice_index s.memory }

abbrev pub first_core : Thread → Core
first_core thread = record { local = record { place = 0; registers = thread.registers; flag = false }; buffer = [] }

abbrev pub first_cores : Listing → Cores
first_cores p = record { cores = map first_core p.threads; memory = p.memory }

-- each of these stores is to one of the locations
abbrev pub AreLocated : ℕ → List Pending → Type 0
AreLocated locations [] = Unit {0}
AreLocated locations (w ∷ ws) = (w.location < locations) × AreLocated locations ws

-- the state has the program's threads and locations
pub record FitsProgram (p : Listing) (s : Cores) : Type 0 where
  pub threads : length s.cores ≡ length p.threads
  pub locations : length s.memory ≡ length p.memory
  pub stores : (t : ℕ) → AreLocated (length p.memory) (core_at s.cores t).buffer

-- the thread and the memory after an action, where stores wait
abbrev pub after_buffered : Action → Core → List ℕ → Option (Core × List ℕ)
after_buffered Stop core memory = None
after_buffered (Go next) core memory = Some (record core { local = next }, memory)
after_buffered (Wait next) core memory = Some (record core { local = next }, memory)
after_buffered (Read l to next) core memory = Some (record core { local = loaded to (found (newest l core.buffer) (slice_index memory l)) next }, memory)
after_buffered (Write l v next) core memory = Some (record { local = next; buffer = core.buffer ++ record { location = l; value = v } ∷ [] }, memory)
after_buffered (Swap l v to next) core memory = Some (record core { local = loaded to (slice_index memory l) next }, slice_set memory l v)

-- the thread and the memory after an action, where a store writes memory at once
abbrev pub after_direct : Action → Core → List ℕ → Option (Core × List ℕ)
after_direct Stop core memory = None
after_direct (Go next) core memory = Some (record core { local = next }, memory)
after_direct (Wait next) core memory = Some (record core { local = next }, memory)
after_direct (Read l to next) core memory = Some (record core { local = loaded to (slice_index memory l) next }, memory)
after_direct (Write l v next) core memory = Some (record core { local = next }, slice_set memory l v)
after_direct (Swap l v to next) core memory = Some (record core { local = loaded to (slice_index memory l) next }, slice_set memory l v)

-- the thread has to wait, with a fenced gap here or not
abbrev pub is_held : Bool → Action → Core → Bool
is_held here a core = not (is_empty core.buffer) && (waits a || here)

-- the thread and the memory after an action of either machine, none where it isn't possible
abbrev pub after_action : Bool → Model → Action → Core → List ℕ → Option (Core × List ℕ)
after_action here models.Sequential a core mem = after_direct a core mem
after_action here models.Buffered a core mem = if is_held here a core then None else after_buffered a core mem

-- a fault of the execution of an action
abbrev pub IsHeld : Bool → Model → Action → Core → Type 0
IsHeld here models.Sequential a core = ⊥
IsHeld here models.Buffered a core = is_held here a core ≡ true

abbrev pub ExecFaultIs : Bool → Model → Action → Core → StepFault → Type 0
ExecFaultIs here model a core (step.Refused FenceWaits) = IsHeld here model a core
ExecFaultIs here model a core (step.Refused _) = ⊥
ExecFaultIs here model a core step.OutOfMemory = Unit {0}

-- the gap that thread t passes by its next instruction: some store of it waits
abbrev pub gap_passed_by : List Thread → ℕ → Core → Option ℕ
gap_passed_by threads t core = if is_empty core.buffer then None else gap_number threads t core.local.place

-- the gap that a step passes
abbrev pub passed_gap : List Thread → List Core → Label → Option ℕ
passed_gap threads cores (Flush t) = None
passed_gap threads cores (Exec t) = gap_passed_by threads t (core_at cores t)

-- thread t is at its end, and none of its stores waits
abbrev pub Finished : Listing → ℕ → Core → Type 0
Finished p t core = (action p.threads t core.local ≡ Stop) × (core.buffer ≡ [])
