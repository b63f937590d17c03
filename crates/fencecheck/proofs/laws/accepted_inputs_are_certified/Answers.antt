use Rattle.fencecheck.proofs.Certified as laws
use Rattle.fencecheck.proofs.laws.accepted_inputs_are_certified.Goals as goal

pub returns : goal.returns
returns c = laws.accepted_inputs_are_certified
