use Rattle.tso_machine.proofs.RunsAreShort.{every_run_is_short}
use Rattle.tso_machine.proofs.laws.every_run_is_short.Goals as goal

pub returns : goal.returns
returns c = every_run_is_short
