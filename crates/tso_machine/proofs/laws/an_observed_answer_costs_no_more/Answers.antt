use Rattle.tso_machine.proofs.PartsServed.{no_more, truth_no_more}
use Rattle.tso_machine.proofs.laws.an_observed_answer_costs_no_more.Goals as goal

pub returns : goal.returns
returns c = record { part = no_more; truth = truth_no_more }
