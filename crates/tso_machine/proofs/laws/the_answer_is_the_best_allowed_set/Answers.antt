use Rattle.tso_machine.proofs.BestAllowed.{best_allowed}
use Rattle.tso_machine.proofs.laws.the_answer_is_the_best_allowed_set.Goals as goal

pub returns : goal.returns
returns c = best_allowed
