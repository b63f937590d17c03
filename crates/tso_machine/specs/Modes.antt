-- The machines of models and modes, and the set of gaps that a run passes.
use Rattle.std.specs.Prelude.{◌≡◌, ◌↔◌, ℕ, true, List, Some}
use Rattle.std.specs.FinSet as set
use Rattle.gap_sets.specs.Gaps.{SetOfGaps}
use Rattle.tso_program.specs.Listings.{gap_number}
use Rattle.tso_program.specs.Fences.{gaps_in}
use Rattle.tso_machine.specs.declared.label.Label.{Label}
use Rattle.tso_machine.specs.declared.label.Model.{Model}
use Rattle.tso_machine.specs.declared.label.Model.TheVariants as models
use Rattle.tso_machine.specs.declared.mode.Mode as own
use Rattle.tso_machine.specs.declared.mode.Mode.TheVariants as modes
use Rattle.tso_machine.specs.Machine.{Machine, SequentialMachine, StoreBufferMachine, no_gaps, State, start, passes}
use Rattle.tso_program.specs.declared.listing.Listing.{Listing}

-- the machine of a model, with the gaps of a set fenced; the sequential machine has no use for the set
abbrev pub machine_of_model : Listing → SetOfGaps → Model → Machine
machine_of_model p gaps models.Sequential = SequentialMachine
machine_of_model p gaps models.Buffered = StoreBufferMachine (gaps_in p gaps)

-- the machine of a model, with no gap fenced
abbrev pub unfenced : Model → Machine
unfenced models.Sequential = SequentialMachine
unfenced models.Buffered = StoreBufferMachine no_gaps

-- the machine of a mode
abbrev pub machine_of_mode : Listing → own.Mode → Machine
machine_of_mode p modes.Sequential = SequentialMachine
machine_of_mode p (modes.Fenced gaps) = StoreBufferMachine (gaps_in p gaps)

-- the steps pass the gap of this number
abbrev pub Passes : Listing → Machine → State → List Label → ℕ → Type 0
Passes p mode s labels gap = (t : ℕ) × (k : ℕ) × (gap_number p.threads t k ≡ Some gap) × (passes p mode s labels t k ≡ true)

-- the set has the gaps that the run passes, and no others
abbrev pub ArePassed : Listing → Machine → List Label → SetOfGaps → Type 0
ArePassed p mode labels gaps = (gap : ℕ) → (set.contains gaps gap ≡ true) ↔ Passes p mode (start p) labels gap
