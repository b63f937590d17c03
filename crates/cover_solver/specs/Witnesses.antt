-- Runs whose outcomes meet a formula.
use Rattle.std.specs.Prelude.{◌≡◌, Bool, List}
use Rattle.tso_program.specs.declared.atom.Atom.{Atom}
use Rattle.tso_program.specs.declared.listing.Listing.{Listing}
use Rattle.tso_program.specs.declared.outcome.Outcome.{Outcome}
use Rattle.tso_program.specs.Tree.{Tree}
use Rattle.tso_program.specs.Truth.{truth}
use Rattle.tso_machine.specs.declared.label.Label.{Label}
use Rattle.tso_machine.specs.Machine.{Machine, IsRun}

-- the labels are a run of the machine, and the formula has this truth at its outcome
abbrev pub IsWitness : Listing → Machine → Tree Atom → Bool → List Label → Type 0
IsWitness p machine f b labels = (o : Outcome) × IsRun p machine labels o × (truth o f ≡ b)

-- no labels are such a run
abbrev pub HasNoWitness : Listing → Machine → Tree Atom → Bool → Type 0
HasNoWitness p machine f b = (labels : List Label) → IsWitness p machine f b labels → ⊥
