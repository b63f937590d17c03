use Rattle.tso_machine.proofs.PartsServed.{truth_kept}
use Rattle.tso_machine.proofs.laws.a_served_truth_is_kept.Goals as goal

pub returns : goal.returns
returns c = truth_kept
