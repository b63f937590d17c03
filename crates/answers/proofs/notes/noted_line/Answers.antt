use Rattle.answers.proofs.Vocabulary.{IfOk-weaker}
use Rattle.answers.proofs.notes.noted_line.Goals as goal

pub returns : goal.returns
returns c = IfOk-weaker c.document_line.result _ _ (λ line is. (c.in_ok-notes.notes.items, c.in_ok-notes.ensures, is)) (rw c.deref.ensures.value at c.document_line.ensures.told)
