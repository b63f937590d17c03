-- Which instructions a run executes (Lamport, IEEE Transactions on Computers 1979, for the runs; the question is this project's own).
use Rattle.std.specs.Prelude.{◌≡◌, ℕ, List, ◌∷◌, ◌++◌, Option, Some, None}
use Rattle.tso_program.specs.declared.listing.Listing.{Listing}
use Rattle.tso_program.specs.declared.outcome.Outcome.{Outcome}
use Rattle.tso_machine.specs.declared.label.Label.{Label, TheVariants.Exec}
use Rattle.tso_machine.specs.Machine.{SequentialMachine, State, start, run, IsRun}

-- one of the labels is thread t's at a state where instruction k is the thread's next
pub record IsExecutedBy (p : Listing) (labels : List Label) (t k : ℕ) : Type 0 where
  pub before : List Label
  pub after : List Label
  pub split : labels ≡ before ++ Exec t ∷ after
  pub state : State
  pub reached : run p SequentialMachine (start p) before ≡ Some state
  pub next : (state.locals t).place ≡ k

-- the labels are a sequential run that executes instruction k of thread t
abbrev pub IsRunThrough : Listing → List Label → ℕ → ℕ → Type 0
IsRunThrough p labels t k = (o : Outcome) × IsRun p SequentialMachine labels o × IsExecutedBy p labels t k

-- some sequential run executes instruction k of thread t
abbrev pub IsExecuted : Listing → ℕ → ℕ → Type 0
IsExecuted p t k = (labels : List Label) × IsRunThrough p labels t k

-- what is said of instruction k of thread t: a run through it, or that there is none
abbrev pub IsAnswer : Listing → ℕ → ℕ → Option (List Label) → Type 0
IsAnswer p t k (Some labels) = IsRunThrough p labels t k
IsAnswer p t k None = IsExecuted p t k → ⊥
