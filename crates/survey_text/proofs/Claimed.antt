-- What a search for a run says of a condition.
use Rattle.std.proofs.Common.{◌≡◌, ◌↔◌, Bool, true, false, not, List, Option, None, Some, refl, is_some, IsTrue}
use Rattle.std.specs.Global.{Vec}
use Rattle.std.specs.Prelude.{MatchOption}
use Rattle.tso_program.specs.declared.atom.Atom.{Atom}
use Rattle.tso_program.specs.declared.listing.Listing.{Listing}
use Rattle.tso_program.specs.Tree.{Tree}
use Rattle.tso_machine.specs.declared.label.Label.{Label}
use Rattle.tso_machine.specs.Machine.{Machine}
use Rattle.cover_solver.specs.Witnesses.{IsWitness, HasNoWitness}
use Rattle.survey_text.specs.Verdicts.{SomeRun}

-- a run is found where there is one
pub there_is : (p : Listing) (machine : Machine) (f : Tree Atom) (b : Bool) (found : Option (Vec Label)) → MatchOption found (HasNoWitness p machine f b) (λ labels. IsWitness p machine f b labels.items) →
    IsTrue (is_some found) ↔ SomeRun p machine f b
there_is p machine f b None none = (λ e. cc, λ (labels, is). absurd (none labels is))
there_is p machine f b (Some labels) is = (λ e. (labels.items, is), λ some. refl)

-- what is so of an answer is not so of its negation
pub negated : {A : Type 0} (b : Bool) → IsTrue b ↔ A → IsTrue (not b) ↔ (A → ⊥)
negated true is = (λ no a. cc, λ none. absurd (none (is.0 refl)))
negated false is = (λ yes a. (let bad : false ≡ true = is.1 a in cc), λ none. refl)
