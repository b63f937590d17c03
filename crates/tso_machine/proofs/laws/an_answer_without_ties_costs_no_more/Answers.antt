use Rattle.tso_machine.proofs.BestAllowed.{no_more_without}
use Rattle.tso_machine.proofs.laws.an_answer_without_ties_costs_no_more.Goals as goal

pub returns : goal.returns
returns c = no_more_without
