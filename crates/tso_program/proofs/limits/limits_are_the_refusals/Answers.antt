use Rattle.tso_program.proofs.WithinLimits
use Rattle.tso_program.proofs.limits.limits_are_the_refusals.Goals as goal

pub returns : goal.returns
returns c = record { program = WithinLimits.limits_are_the_refusals; fenced = WithinLimits.fenced_limits_are_the_refusals }
