use Rattle.tso_machine.proofs.Unfenced.{empty_fences_nothing}
use Rattle.tso_machine.proofs.GapsAvoided.{fenced_runs_avoid, passed_gaps_tell}
use Rattle.tso_machine.proofs.laws.fenced_runs_pass_no_gap_of_the_set.Goals as goal

pub returns : goal.returns
returns c = record { avoided = fenced_runs_avoid; passed = passed_gaps_tell; empty = empty_fences_nothing }
