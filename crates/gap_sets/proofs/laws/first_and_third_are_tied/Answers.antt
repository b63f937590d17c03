use Rattle.gap_sets.proofs.TiedExample.{first_and_third}
use Rattle.gap_sets.proofs.laws.first_and_third_are_tied.Goals as goal

pub returns : goal.returns
returns c = first_and_third
