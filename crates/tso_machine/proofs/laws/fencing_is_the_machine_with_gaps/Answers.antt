use Rattle.std.proofs.Common.{false}
use Rattle.tso_machine.proofs.FencingIsTheMachine.{both_ways, fencing_is_the_machine}
use Rattle.tso_machine.proofs.laws.fencing_is_the_machine_with_gaps.Goals as goal

pub returns : goal.returns
returns c = record { buffered = fencing_is_the_machine; sequential = λ q gaps o. both_ways q gaps false o }
