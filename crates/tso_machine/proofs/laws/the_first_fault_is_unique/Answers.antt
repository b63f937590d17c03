use Rattle.tso_machine.proofs.{Refused.applies_none, OneFault.one_fault}
use Rattle.tso_machine.proofs.laws.the_first_fault_is_unique.Goals as goal

pub returns-clause-stops : goal.returns-clause-stops
returns-clause-stops c = applies_none

pub returns-clause-unique : goal.returns-clause-unique
returns-clause-unique c = one_fault
