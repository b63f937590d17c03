use Rattle.documents.proofs.Vocabulary.{◌∙◌, ap, IfOk-weaker, document_of}
use Rattle.documents.proofs.Told.{both}
use Rattle.documents.proofs.note.document_line.Goals as goal

pub returns-clause-told : goal.returns-clause-told
returns-clause-told c =
    IfOk-weaker c.document_of.result _ _ (λ line is. record { printed = is.0 ∙ ap document_of c.in_ok-add_notes.ensures; json = is.1 })
    (both c.document_of.result _ _ c.document_of.ensures.text c.document_of.ensures.json)
