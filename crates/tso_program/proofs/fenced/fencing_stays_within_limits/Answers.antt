use Rattle.tso_program.proofs.FencedLimits as FencedLimits
use Rattle.tso_program.proofs.fenced.fencing_stays_within_limits.Goals as goal

pub returns : goal.returns
returns c = FencedLimits.fencing_stays_within_limits
