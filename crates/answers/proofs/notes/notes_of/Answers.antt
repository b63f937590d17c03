use Rattle.answers.proofs.Vocabulary.{◌∙◌, List, ◌++◌, ap, subst}
use Rattle.documents.specs.declared.note.Note.{Note}
use Rattle.answers.specs.Notes.{AddsSlips, verdict_notes}
use Rattle.answers.proofs.notes.notes_of.Goals as goal

pub returns : goal.returns
returns c =
    subst (λ (before : List Note). AddsSlips before c.push_slip.new.notes.items) (c.in_ok-push_verdict.ensures ∙ ap (λ (notes : List Note). notes ++ verdict_notes c.args.verdict) c.new-notes.ensures.items)
    c.in_ok-push_slip.ensures
