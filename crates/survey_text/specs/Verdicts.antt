-- Whether a test's condition holds.
use Rattle.std.specs.Prelude.{◌↔◌, Bool, true, false, IsTrue, List}
use Rattle.conditions.specs.declared.condition.Condition.{Condition}
use Rattle.conditions.specs.declared.condition.Quantifier.{Quantifier, TheVariants.Exists, TheVariants.NotExists, TheVariants.Forall}
use Rattle.tso_program.specs.declared.atom.Atom.{Atom}
use Rattle.tso_program.specs.declared.listing.Listing.{Listing}
use Rattle.tso_program.specs.Tree.{Tree}
use Rattle.tso_machine.specs.declared.label.Label.{Label}
use Rattle.tso_machine.specs.Machine.{Machine}
use Rattle.cover_solver.specs.Witnesses.{IsWitness}

-- after some run of the machine the formula has this truth
abbrev pub SomeRun : Listing → Machine → Tree Atom → Bool → Type 0
SomeRun p machine f b = (labels : List Label) × IsWitness p machine f b labels

-- after some run the formula is true, after none, or after none it is false
abbrev pub Claims : Quantifier → Listing → Machine → Tree Atom → Type 0
Claims Exists p machine f = SomeRun p machine f true
Claims NotExists p machine f = SomeRun p machine f true → ⊥
Claims Forall p machine f = SomeRun p machine f false → ⊥

-- whether the condition holds in the machine
abbrev pub HoldsIn : Listing → Machine → Condition → Bool → Type 0
HoldsIn p machine condition b = IsTrue b ↔ Claims condition.quantifier p machine condition.formula
