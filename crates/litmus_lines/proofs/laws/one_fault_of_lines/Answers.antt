use Rattle.litmus_lines.proofs.FaultLaws.{same_fault}
use Rattle.litmus_lines.proofs.laws.one_fault_of_lines.Goals as goal

pub returns : goal.returns
returns c = same_fault
