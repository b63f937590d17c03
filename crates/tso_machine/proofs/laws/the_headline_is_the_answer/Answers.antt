use Rattle.tso_machine.proofs.HeadlineIsTheAnswer.{headline_is_the_answer}
use Rattle.tso_machine.proofs.laws.the_headline_is_the_answer.Goals as goal

pub returns : goal.returns
returns c = headline_is_the_answer
