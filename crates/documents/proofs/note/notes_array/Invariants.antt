use Rattle.documents.proofs.Vocabulary.{◌≡◌, map, take}
use Rattle.documents.specs.Notes.{note_text}
use Rattle.documents.proofs.note.notes_array.Given as goal

-- the notes so far
abbrev pub invariant-loop-note : goal.invariant-loop-note
invariant-loop-note l = l.array ≡ map note_text (take l.note-index l.notes)
