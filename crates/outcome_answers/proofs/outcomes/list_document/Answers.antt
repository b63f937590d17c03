use Rattle.outcome_answers.proofs.Vocabulary.{IfOk-weaker}
use Rattle.outcome_answers.proofs.outcomes.list_document.Goals as goal

pub returns : goal.returns
returns c = IfOk-weaker c.noted_line.result _ _ (λ line is. (c.in_ok-document.document, c.in_ok-document.ensures, is)) c.noted_line.ensures
