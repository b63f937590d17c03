use Rattle.gap_sets.proofs.Allowed.{names_of_spread, spread_allowed}
use Rattle.gap_sets.proofs.laws.what_names_stand_for_is_allowed.Goals as goal

pub returns : goal.returns
returns c = record { allowed = spread_allowed; names = names_of_spread }
