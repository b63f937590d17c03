use Rattle.placed_text.proofs.Vocabulary.{◌≡◌, ℕ, List, Option, Some, None, refl, option_map, Listing, AreNotGiven, AreNoCosts}
use Rattle.litmus_text.specs.CostTextFault.{CostTextFault}
use Rattle.litmus_text.specs.CostTextFault.TheVariants as cost_fault
use Rattle.placed_text.proofs.problem.read_gap_costs.Goals as goal

-- costs that aren't given, memory aside, are those of a text that gives none
no_costs : (p : Listing) (text : Option (List ℕ)) (why : CostTextFault) → (why ≡ cost_fault.OutOfMemory → ⊥) → AreNotGiven p text why → AreNoCosts p text why
no_costs p None why other none = absurd (other none)
no_costs p (Some text) why other none = record { text = text; is_given = refl; refused = none.refused; none = λ given is. other (none.none given is); not_memory = other }

pub returns-in_default-clause-refused : goal.returns-in_default-clause-refused
returns-in_default-clause-refused c =
    no_costs c.args.program.now (option_map (λ text. text.now) c.args.text) c.in-Err.fault c.in_default.not-OutOfMemory c.in-Err.ensures.none
