use Rattle.fencer.proofs.Vocabulary.{IfOk-weaker}
use Rattle.fencer.proofs.gaps.document_of_gaps.Goals as goal

pub returns : goal.returns
returns c = IfOk-weaker c.document_line.result _ _ (λ line is. (c.in_ok-document.document, c.in_ok-document.ensures, is)) c.document_line.ensures.told
