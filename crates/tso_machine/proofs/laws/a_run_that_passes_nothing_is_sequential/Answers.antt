use Rattle.tso_machine.proofs.NothingPassed.{nothing_passed, empty_passed}
use Rattle.tso_machine.proofs.laws.a_run_that_passes_nothing_is_sequential.Goals as goal

pub returns : goal.returns
returns c = record { no_gap = nothing_passed; empty_set = empty_passed }
