use Rattle.documents.proofs.Vocabulary.{◌∙◌, ap, IfOk-weaker, document_of}
use Rattle.documents.proofs.Told.{both}
use Rattle.documents.proofs.refusal.refusal_document.Goals as goal

pub returns-clause-text : goal.returns-clause-text
returns-clause-text c =
    let members = rw (c.in_ok-add.ensures.text, c.in_ok-reason.ensures, c.reason_of.ensures, c.in_ok-add_format.ensures, c.new-object.ensures) at c.in_ok-add_message.ensures in
    IfOk-weaker c.document_of.result _ _ (λ document is. is ∙ ap document_of members) c.document_of.ensures.text

pub returns-clause-told : goal.returns-clause-told
returns-clause-told c =
    let message = c.args.message.now in
    let members = rw (c.in_ok-add.ensures.text, c.in_ok-reason.ensures, c.reason_of.ensures, c.in_ok-add_format.ensures, c.new-object.ensures) at c.in_ok-add_message.ensures in
    IfOk-weaker c.document_of.result _ _ (λ document is. record { remark = record { file = message.file.now; line = message.line; column = message.column; word = message.word.now; message = message.text.now }; printed = is.0 ∙ ap document_of members; json = is.1 })
    (both c.document_of.result _ _ c.document_of.ensures.text c.document_of.ensures.json)
