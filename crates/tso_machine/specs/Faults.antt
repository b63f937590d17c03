-- What each fault of a replay says of the steps before it.
use Rattle.std.specs.Prelude.{◌≡◌, ◌≢◌, ◌⊎◌, ℕ, ◌<◌, ◌≤◌, Bool, true, false, List, [], take, length, slice_get, Some}
use Rattle.tso_machine.specs.declared.label.Label.{Label, TheVariants.Exec, TheVariants.Flush}
use Rattle.tso_machine.specs.declared.label.Cause.{Cause, TheVariants.NoSuchThread, TheVariants.AtEnd, TheVariants.BufferEmpty, TheVariants.FenceWaits}
use Rattle.tso_machine.specs.declared.label.StepFault.{StepFault}
use Rattle.tso_machine.specs.declared.label.StepFault.TheVariants as step
use Rattle.tso_machine.specs.declared.replaying.ReplayFault.{ReplayFault}
use Rattle.tso_machine.specs.declared.replaying.ReplayFault.TheVariants as fault
use Rattle.tso_machine.specs.Machine.{Machine, SequentialMachine, StoreBufferMachine, State, start, run}
use Rattle.tso_program.specs.declared.listing.Listing.{Listing}
use Rattle.tso_program.specs.declared.action.Action.{Action, TheVariants.Stop, TheVariants.Go, TheVariants.Wait, TheVariants.Read, TheVariants.Write, TheVariants.Swap}
use Rattle.tso_program.specs.Listings.{action}

-- the thread of a step
abbrev pub thread_of : Label → ℕ
thread_of (Exec t) = t
thread_of (Flush t) = t

-- MFENCE and XCHG wait for an empty buffer
abbrev pub waits : Action → Bool
waits Stop = false
waits (Go next) = false
waits (Wait next) = true
waits (Read l to next) = false
waits (Write l v next) = false
waits (Swap l v to next) = true

-- a fenced gap stands before instruction k of thread t
abbrev pub IsFenced : Machine → ℕ → ℕ → Type 0
IsFenced SequentialMachine t k = ⊥
IsFenced (StoreBufferMachine gaps) t k = gaps t k ≡ true

module _ (p : Listing) (s : State) where
  -- the thread is at its end
  abbrev pub IsAtEnd : Label → Type 0
  IsAtEnd (Exec t) = (t < length p.threads) × (action p.threads t (s.locals t) ≡ Stop)
  IsAtEnd (Flush t) = ⊥

  -- no store of the thread waits
  abbrev pub HasNoStore : Label → Type 0
  HasNoStore (Exec t) = ⊥
  HasNoStore (Flush t) = (t < length p.threads) × (s.buffers t ≡ [])

  -- thread t isn't at its end, or one of its stores waits
  abbrev pub IsUnfinished : ℕ → Type 0
  IsUnfinished t = (t < length p.threads) × ((action p.threads t (s.locals t) ≢ Stop) ⊎ (s.buffers t ≢ []))

module _ (p : Listing) (mode : Machine) (s : State) where
  -- a store waits, and the instruction waits for it or a fenced gap stands before it
  abbrev pub HasToWait : Label → Type 0
  HasToWait (Exec t) = (s.buffers t ≢ []) × ((waits (action p.threads t (s.locals t)) ≡ true) ⊎ IsFenced mode t (s.locals t).place)
  HasToWait (Flush t) = ⊥

  -- why a step from the state isn't possible
  abbrev pub Applies : Cause → Label → Type 0
  Applies NoSuchThread label = length p.threads ≤ thread_of label
  Applies AtEnd label = IsAtEnd p s label
  Applies BufferEmpty label = HasNoStore p s label
  Applies FenceWaits label = HasToWait label

  -- why the step of this label wasn't made
  abbrev pub StepFaultIs : Label → StepFault → Type 0
  StepFaultIs label (step.Refused cause) = Applies cause label
  StepFaultIs label step.OutOfMemory = Unit {0}

module _ (p : Listing) (mode : Machine) (labels : List Label) where
  -- the steps before step n are possible, and then the cause applies to it
  pub record Stops (n : ℕ) (cause : Cause) : Type 0 where
    pub before : State
    pub reached : run p mode (start p) (take n labels) ≡ Some before
    pub label : Label
    pub there : slice_get labels n ≡ Some label
    pub why : Applies p mode before cause label

  -- all n steps are possible, and then some thread is unfinished
  pub record EndsEarly (n : ℕ) : Type 0 where
    pub all : n ≡ length labels
    pub last : State
    pub reached : run p mode (start p) labels ≡ Some last
    pub thread : ℕ
    pub unfinished : IsUnfinished p last thread

  -- what a fault says of the labels; out of memory says nothing
  abbrev pub ReplayFaultIs : ReplayFault → Type 0
  ReplayFaultIs (fault.NoSuchThread n) = Stops n NoSuchThread
  ReplayFaultIs (fault.AtEnd n) = Stops n AtEnd
  ReplayFaultIs (fault.BufferEmpty n) = Stops n BufferEmpty
  ReplayFaultIs (fault.FenceWaits n) = Stops n FenceWaits
  ReplayFaultIs (fault.NotEnded n) = EndsEarly n
  ReplayFaultIs fault.OutOfMemory = Unit {0}

-- the fault of a step that wasn't made
abbrev pub fault_of : StepFault → ℕ → ReplayFault
fault_of (step.Refused NoSuchThread) n = fault.NoSuchThread n
fault_of (step.Refused AtEnd) n = fault.AtEnd n
fault_of (step.Refused BufferEmpty) n = fault.BufferEmpty n
fault_of (step.Refused FenceWaits) n = fault.FenceWaits n
fault_of step.OutOfMemory n = fault.OutOfMemory
