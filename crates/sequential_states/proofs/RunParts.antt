-- Runs in parts.
use Rattle.sequential_states.proofs.Vocabulary.{◌≡◌, List, [], ◌∷◌, ◌++◌, Option, Some, None, refl, ap, option_and_then}
use Rattle.sequential_states.proofs.Vocabulary.{Listing, Label, SequentialMachine, State, step, run}

module _ (p : Listing) where
  -- steps one after another
  pub run_joined : (s middle : State) (first second : List Label) → run p SequentialMachine s first ≡ Some middle → run p SequentialMachine s (first ++ second) ≡ run p SequentialMachine middle second
  run_joined s middle [] second e = ap (λ z. run p SequentialMachine z second) (let q : s ≡ middle = cc in q)
  run_joined s middle (l ∷ first) second e = go (step p SequentialMachine s l) e (λ z r. run_joined z middle first second r)
    where
      go : (o : Option State) → option_and_then (λ z. run p SequentialMachine z first) o ≡ Some middle
          → ((z : State) → run p SequentialMachine z first ≡ Some middle → run p SequentialMachine z (first ++ second) ≡ run p SequentialMachine middle second)
          → option_and_then (λ z. run p SequentialMachine z (first ++ second)) o ≡ run p SequentialMachine middle second
      go None r ih = absurd cc
      go (Some z) r ih = ih z r

  -- what begins a run that can be made can be made
  pub run_parted : (s last : State) (first second : List Label) → run p SequentialMachine s (first ++ second) ≡ Some last
      → (middle : State) × (run p SequentialMachine s first ≡ Some middle) × (run p SequentialMachine middle second ≡ Some last)
  run_parted s last [] second e = (s, refl, e)
  run_parted s last (l ∷ first) second e = go (step p SequentialMachine s l) e (λ z r. run_parted z last first second r)
    where
      go : (o : Option State) → option_and_then (λ z. run p SequentialMachine z (first ++ second)) o ≡ Some last
          → ((z : State) → run p SequentialMachine z (first ++ second) ≡ Some last → (middle : State) × (run p SequentialMachine z first ≡ Some middle) × (run p SequentialMachine middle second ≡ Some last))
          → (middle : State) × (option_and_then (λ z. run p SequentialMachine z first) o ≡ Some middle) × (run p SequentialMachine middle second ≡ Some last)
      go None r ih = absurd cc
      go (Some z) r ih = ih z r

  -- the first of some steps
  pub first_step : (s last : State) (l : Label) (labels : List Label) → run p SequentialMachine s (l ∷ labels) ≡ Some last → (next : State) × (step p SequentialMachine s l ≡ Some next) × (run p SequentialMachine next labels ≡ Some last)
  first_step s last l labels e = go (step p SequentialMachine s l) e
    where
      go : (o : Option State) → option_and_then (λ z. run p SequentialMachine z labels) o ≡ Some last → (next : State) × (o ≡ Some next) × (run p SequentialMachine next labels ≡ Some last)
      go None r = absurd cc
      go (Some z) r = (z, refl, r)
