use Rattle.answers.proofs.Vocabulary.{[], ◌∷◌, append-nil, sym}
use Rattle.std.proofs.lemmas.List.Elements.{All-nil, All-push}
use Rattle.documents.specs.declared.note.Note.{Note}
use Rattle.answers.specs.Notes.{IsSlipKind}
use Rattle.answers.proofs.notes.push_slip.Goals as goal

pub returns-in_ok-push-in-Some : goal.returns-in_ok-push-in-Some
returns-in_ok-push-in-Some c =
    let IsSlip : Note → Type 0 = λ note. IsSlipKind note.kind in
    (c.slip_note.result ∷ [], All-push IsSlip [] c.slip_note.result (All-nil IsSlip) c.slip_note.ensures, c.in_ok-push-in-Some.ensures.items)

pub returns-in-None : goal.returns-in-None
returns-in-None c =
    let IsSlip : Note → Type 0 = λ note. IsSlipKind note.kind in
    ([], All-nil IsSlip, sym (append-nil c.args.notes.now.items))
