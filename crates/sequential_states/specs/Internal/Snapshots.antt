-- The states of the sequential machine as the code keeps them: lists of what the threads and the locations hold.
use Rattle.std.specs.Prelude.{◌≡◌, ◌<◌, ℕ, false, List, [], map, length, slice_index, slice_index_or, slice_set, Some, None}
use Rattle.tso_program.specs.declared.listing.Thread.{Thread}
use Rattle.tso_program.specs.declared.listing.Listing.{Listing}
use Rattle.tso_program.specs.declared.action.Local.{Local}
use Rattle.tso_program.specs.declared.action.Action.{Action, TheVariants.Stop, TheVariants.Go, TheVariants.Wait, TheVariants.Read, TheVariants.Write, TheVariants.Swap}
use Rattle.tso_program.specs.Actions.{loaded}
use Rattle.tso_program.specs.Listings.{action}
use Rattle.tso_machine.specs.declared.label.Label.{TheVariants.Exec}
use Rattle.tso_machine.specs.Machine.{SequentialMachine, State, step}

-- what the threads and the locations hold
pub record Shot : Type 0 where
  pub locals : List Local
  pub memory : List ℕ

-- what stands for a thread that is not there
abbrev pub no_local : Local
no_local = record { place = 0; registers = []; flag = false }

-- the machine's state: no store waits
abbrev pub state_of : Shot → State
state_of s = record { locals = λ t. slice_index_or s.locals t no_local; buffers = λ t. []; memory = slice_index s.memory }

-- a thread's own state at its start
abbrev pub thread_start : Thread → Local
thread_start thread = record { place = 0; registers = thread.registers; flag = false }

abbrev pub first_shot : Listing → Shot
first_shot p = record { locals = map thread_start p.threads; memory = p.memory }

-- the state has the program's threads and locations
pub record FitsProgram (p : Listing) (s : Shot) : Type 0 where
  pub threads : length s.locals ≡ length p.threads
  pub locations : length s.memory ≡ length p.memory

-- an action that reads and writes no location
abbrev pub IsLocal : Action → Type 0
IsLocal Stop = ⊥
IsLocal (Go next) = Unit {0}
IsLocal (Wait next) = Unit {0}
IsLocal (Read l to next) = ⊥
IsLocal (Write l v next) = ⊥
IsLocal (Swap l v to next) = ⊥

-- thread t's step reads and writes no location
abbrev pub HasLocalStep : Listing → Shot → ℕ → Type 0
HasLocalStep p s t = IsLocal (action p.threads t ((state_of s).locals t))

-- after an action of thread t
abbrev pub acted : Shot → ℕ → Action → Shot
acted s t Stop = s
acted s t (Go next) = record s { locals = slice_set s.locals t next }
acted s t (Wait next) = record s { locals = slice_set s.locals t next }
acted s t (Read l to next) = record s { locals = slice_set s.locals t (loaded to (slice_index s.memory l) next) }
acted s t (Write l v next) = record { locals = slice_set s.locals t next; memory = slice_set s.memory l v }
acted s t (Swap l v to next) = record { locals = slice_set s.locals t (loaded to (slice_index s.memory l) next); memory = slice_set s.memory l v }

-- thread t's step leads from the one to the other, a state that has the program's threads and locations
pub record IsStep (p : Listing) (s : Shot) (t : ℕ) (next : Shot) : Type 0 where
  pub leads : step p SequentialMachine (state_of s) (Exec t) ≡ Some (state_of next)
  pub fits : FitsProgram p next

-- thread t has no step
abbrev pub HasNoStep : Listing → Shot → ℕ → Type 0
HasNoStep p s t = step p SequentialMachine (state_of s) (Exec t) ≡ None

-- instruction k is thread t's next
pub record StandsAt (s : Shot) (t k : ℕ) : Type 0 where
  pub there : t < length s.locals
  pub next : ((state_of s).locals t).place ≡ k
