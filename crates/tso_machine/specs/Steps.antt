-- The steps of a run, one by one.
use Rattle.std.specs.Prelude.{◌≡◌, ℕ, List, [], ◌∷◌, Some}
use Rattle.tso_program.specs.declared.listing.Listing.{Listing}
use Rattle.tso_machine.specs.declared.label.Label.{Label}
use Rattle.tso_machine.specs.declared.stepping.Step.{Step}
use Rattle.tso_machine.specs.declared.stepping.ThreadState.{ThreadState}
use Rattle.tso_machine.specs.Machine.{Machine, State, step}
use Rattle.tso_machine.specs.Faults.{thread_of}

-- thread t in a state
abbrev pub thread_at : State → ℕ → ThreadState
thread_at s t = record { local = s.locals t; waiting = s.buffers t }

-- the step has this label, and its thread as it is in the two states
pub record IsStepBetween (before after : State) (label : Label) (made : Step) : Type 0 where
  pub labelled : made.label ≡ label
  pub from : made.before ≡ thread_at before (thread_of label)
  pub to : made.after ≡ thread_at after (thread_of label)

-- the steps that the labels make from a state, in order
abbrev pub AreSteps : Listing → Machine → State → List Label → List Step → Type 0
AreSteps p mode s [] [] = Unit {0}
AreSteps p mode s [] (made ∷ more) = ⊥
AreSteps p mode s (label ∷ labels) [] = ⊥
AreSteps p mode s (label ∷ labels) (made ∷ more) = (next : State) × (step p mode s label ≡ Some next) × IsStepBetween s next label made × AreSteps p mode next labels more
