use Rattle.cert_check.proofs.JudgedFaults as faults
use Rattle.cert_check.proofs.laws.valid_certificates_have_no_fault.Goals as goal

pub returns : goal.returns
returns c = faults.valid_certificates_have_no_fault
