-- Runs that are sought.
use Rattle.std.specs.Prelude.{List}
use Rattle.tso_program.specs.declared.listing.Listing.{Listing}
use Rattle.tso_machine.specs.declared.label.Label.{Label}
use Rattle.litmus_text.specs.Litmus.{Litmus}
use Rattle.cover_solver.specs.Witnesses.{IsWitness}
use Rattle.documents.specs.declared.witness.Sought.{Sought}
use Rattle.witness_text.specs.WitnessTexts.{machine_of}

-- the labels are a run of the machine with the gaps fenced, and the condition's formula has the truth at its outcome
abbrev pub IsSoughtRun : Litmus Listing → Sought → List Label → Type 0
IsSoughtRun source sought labels = IsWitness source.program (machine_of source.program sought) source.condition.formula sought.meets labels
