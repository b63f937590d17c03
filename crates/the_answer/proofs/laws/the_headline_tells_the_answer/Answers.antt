use Rattle.the_answer.proofs.AnswerExists.{headline_is}
use Rattle.the_answer.proofs.Vocabulary.{◌∙◌, ap, total}
use Rattle.the_answer.proofs.laws.the_headline_tells_the_answer.Goals as goal

pub returns : goal.returns
returns c = λ q costs gaps cost within headline e. let same = (headline_is q costs gaps within).0 headline in (same, e ∙ ap (total costs) same)
