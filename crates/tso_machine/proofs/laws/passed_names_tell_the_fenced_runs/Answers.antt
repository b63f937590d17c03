use Rattle.tso_machine.proofs.NamesPassed.{fenced_runs_pass_no_name, names_of_passed, passed_names_tell, names_serve, own_gaps, own_gaps_passed}
use Rattle.tso_machine.proofs.laws.passed_names_tell_the_fenced_runs.Goals as goal

pub returns-clause-names : goal.returns-clause-names
returns-clause-names c = fenced_runs_pass_no_name

pub returns-clause-passed : goal.returns-clause-passed
returns-clause-passed c = names_of_passed

pub returns-clause-tell : goal.returns-clause-tell
returns-clause-tell c = passed_names_tell

pub returns-clause-serve : goal.returns-clause-serve
returns-clause-serve c = names_serve

pub returns-clause-without : goal.returns-clause-without
returns-clause-without c = own_gaps

pub returns-clause-own_gaps : goal.returns-clause-own_gaps
returns-clause-own_gaps c = own_gaps_passed
