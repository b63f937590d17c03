use Rattle.tso_machine.proofs.OneAnswer.{one_answer}
use Rattle.tso_machine.proofs.laws.the_answer_is_the_only_one.Goals as goal

pub returns : goal.returns
returns c = one_answer
