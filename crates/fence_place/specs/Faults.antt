-- Why nothing is found or placed.
use Rattle.std.specs.Prelude.{◌≡◌, ◌≢◌, ◌⊎◌, ℕ, ◌<◌, Bool, true, List, length}
use Rattle.tso_program.specs.declared.question.Question.{Question}
use Rattle.tso_program.specs.declared.limits.TheConstants.{MAX_WORKERS}
use Rattle.tso_program.specs.Listings.{gap_count}
use Rattle.oracle.specs.declared.fault.SolveFault.{SolveFault}
use Rattle.oracle.specs.declared.fault.SolveFault.TheVariants as solve
use Rattle.fence_place.specs.declared.fault.PlaceFault.{PlaceFault}
use Rattle.fence_place.specs.declared.fault.PlaceFault.TheVariants as fault

-- no workers, or more than `MAX_WORKERS`
abbrev pub AreTooFewOrMany : ℕ → Type 0
AreTooFewOrMany workers = (workers ≡ 0) ⊎ (MAX_WORKERS < workers)

-- not one cost for each gap, or a tie that reaches past the gaps
abbrev pub HasOtherLength : Question → List ℕ → Type 0
HasOtherLength q costs = (length costs ≢ gap_count q.program.threads) ⊎ (gap_count q.program.threads < length q.ties)

-- it is about the arguments: the number of workers first
abbrev pub ArgumentFaultIs : Question → List ℕ → ℕ → PlaceFault → Type 0
ArgumentFaultIs q costs workers fault.Workers = AreTooFewOrMany workers
ArgumentFaultIs q costs workers fault.Costs = (¬ AreTooFewOrMany workers) × HasOtherLength q costs
ArgumentFaultIs q costs workers why = ⊥

-- the oracle lacks a run, where it may, or out of memory
abbrev pub MaySearchFail : Bool → SolveFault → Type 0
MaySearchFail may_lack_runs why = why ≡ solve.NoRun → may_lack_runs ≡ true

-- so it is, or the record doesn't close
abbrev pub MayHuntFail : Bool → PlaceFault → Type 0
MayHuntFail may_lack_runs fault.NotCertified = may_lack_runs ≡ true
MayHuntFail may_lack_runs fault.Board = Unit {0}
MayHuntFail may_lack_runs fault.OutOfMemory = Unit {0}
MayHuntFail may_lack_runs why = ⊥

-- of a hunt: it is about the arguments, or the hunt fails
abbrev pub HuntFaultIs : Question → List ℕ → ℕ → Bool → PlaceFault → Type 0
HuntFaultIs q costs workers may_lack_runs why = ArgumentFaultIs q costs workers why ⊎ MayHuntFail may_lack_runs why

-- of a placement: it is about the arguments, or memory runs out
abbrev pub PlaceFaultIs : Question → List ℕ → ℕ → PlaceFault → Type 0
PlaceFaultIs q costs workers fault.OutOfMemory = Unit {0}
PlaceFaultIs q costs workers why = ArgumentFaultIs q costs workers why
