use Rattle.documents.proofs.Vocabulary.{◌∙◌, ℕ, List, [], ◌∷◌, ◌++◌, get_or, ap, sym, map_more}
use Rattle.documents.specs.Notes.{note_text}
use Rattle.documents.proofs.note.notes_array.Goals as goal

pub loop-note-preserved : goal.loop-note-preserved
loop-note-preserved c =
    let d = c.note-item.result in
    c.in_ok-add.ensures ∙ ap (λ (json : List ℕ). c.loop-note.array ++ json ∷ []) (c.in_ok-note_value.ensures ∙ ap note_text c.note-item.is)
    ∙ ap (λ (texts : List (List ℕ)). texts ++ note_text (get_or c.args.notes.now c.loop-note.note-index d) ∷ []) c.loop-note.invariant
    ∙ sym (map_more note_text c.args.notes.now c.loop-note.note-index d c.loop-note-test.true)
