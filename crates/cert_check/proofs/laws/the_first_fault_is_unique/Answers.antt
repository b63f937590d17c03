use Rattle.cert_check.proofs.JudgedFaults as faults
use Rattle.cert_check.proofs.laws.the_first_fault_is_unique.Goals as goal

pub returns : goal.returns
returns c = faults.the_first_fault_is_unique
