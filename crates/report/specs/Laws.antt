-- What the observations say, outcome by outcome.
use Rattle.std.specs.Prelude.{◌≡◌, ◌↔◌, true, false, List, [], codes, All, Any}
use Rattle.tso_program.specs.declared.outcome.Outcome.{Outcome}
use Rattle.tso_program.specs.declared.atom.Atom.{Atom}
use Rattle.conditions.specs.declared.condition.Quantifier.TheVariants.{Exists, NotExists, Forall}
use Rattle.tso_program.specs.Tree.{Tree}
use Rattle.tso_program.specs.Truth.{truth}
use Rattle.report.specs.Observations.{frequency, is_true_of}

-- an outcome that meets the formula, and one that does not
abbrev pub MeetsFormula : Tree Atom → Outcome → Type 0
MeetsFormula formula outcome = truth outcome formula ≡ true

abbrev pub FailsFormula : Tree Atom → Outcome → Type 0
FailsFormula formula outcome = truth outcome formula ≡ false

-- the observations and the conditions, outcome by outcome, and for no outcomes
pub record ObservationsAreTold : Type 0 where
  pub never : (f : Tree Atom) (outcomes : List Outcome) → (frequency f outcomes ≡ codes "Never") ↔ All (FailsFormula f) outcomes
  pub always : (f : Tree Atom) (outcomes : List Outcome) → (frequency f outcomes ≡ codes "Always") ↔ (Any (MeetsFormula f) outcomes × All (MeetsFormula f) outcomes)
  pub sometimes : (f : Tree Atom) (outcomes : List Outcome) → (frequency f outcomes ≡ codes "Sometimes") ↔ (Any (MeetsFormula f) outcomes × Any (FailsFormula f) outcomes)
  pub exists_holds : (f : Tree Atom) (outcomes : List Outcome) → (is_true_of Exists f outcomes ≡ true) ↔ Any (MeetsFormula f) outcomes
  pub not_exists_holds : (f : Tree Atom) (outcomes : List Outcome) → (is_true_of NotExists f outcomes ≡ true) ↔ All (FailsFormula f) outcomes
  pub forall_holds : (f : Tree Atom) (outcomes : List Outcome) → (is_true_of Forall f outcomes ≡ true) ↔ All (MeetsFormula f) outcomes
  pub no_outcomes : (f : Tree Atom) → (frequency f [] ≡ codes "Never") × (is_true_of Exists f [] ≡ false) × (is_true_of NotExists f [] ≡ true) × (is_true_of Forall f [] ≡ true)
