use Rattle.gap_sets.proofs.Vocabulary.{refl}
use Rattle.gap_sets.proofs.Spreading.{spread_contains, no_greater}
use Rattle.gap_sets.proofs.Naming.{names_contain, own_names}
use Rattle.gap_sets.proofs.laws.a_set_stands_for_the_gaps_of_its_names.Goals as goal

pub returns-clause-stands : goal.returns-clause-stands
returns-clause-stands c = spread_contains

pub returns-clause-names : goal.returns-clause-names
returns-clause-names c = names_contain

pub returns-clause-least : goal.returns-clause-least
returns-clause-least c = no_greater

pub returns-clause-without : goal.returns-clause-without
returns-clause-without c = record { name = λ gap. refl; spreads = λ names. refl; names = own_names; allowed = own_names }
