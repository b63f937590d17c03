use Rattle.tso_machine.proofs.SequentialIsBuffered.{sequential_is_allowed}
use Rattle.tso_machine.proofs.laws.sequential_runs_are_allowed.Goals as goal

pub returns : goal.returns
returns c = sequential_is_allowed
