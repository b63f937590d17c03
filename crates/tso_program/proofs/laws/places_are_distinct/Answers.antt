use Rattle.tso_program.proofs.Places.{registers_distinct, locations_distinct, lie_apart, each_named}
use Rattle.tso_program.proofs.laws.places_are_distinct.Goals as goal

pub returns : goal.returns
returns c = record { registers = registers_distinct; locations = locations_distinct; apart = lie_apart; all = each_named }
