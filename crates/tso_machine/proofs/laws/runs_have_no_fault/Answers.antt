use Rattle.tso_machine.proofs.Refused.{no_fault}
use Rattle.tso_machine.proofs.laws.runs_have_no_fault.Goals as goal

pub returns : goal.returns
returns c = no_fault
