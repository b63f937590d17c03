-- What is said beside an answer, and the line of a document with it.
use Rattle.std.specs.Prelude.{◌≡◌, ℕ, List, [], ◌∷◌, ◌++◌, codes, length, map, nat_lt, if◌then◌else◌}
use Rattle.json_text.specs.Texts.{quoted, array_text, member, object_text}
use Rattle.json_text.specs.Values.{IsJsonLine}
use Rattle.documents.specs.declared.note.Note.{Note}
use Rattle.documents.specs.declared.note.NoteKind.{NoteKind}
use Rattle.documents.specs.declared.note.NoteKind.TheVariants as kinds
use Rattle.documents.specs.Documents.{document_of, number_or_null, string_or_null}

abbrev pub kind_name : NoteKind → List ℕ
kind_name kinds.NoFenceMends = codes "no_fence_mends"
kind_name kinds.HappensSequentially = codes "happens_sequentially"
kind_name kinds.UnusedName = codes "unused_name"
kind_name kinds.JumpBeforeCmp = codes "jump_before_cmp"
kind_name kinds.UnwrittenRegister = codes "unwritten_register"
kind_name kinds.LoneName = codes "lone_name"
kind_name kinds.UnwrittenLocation = codes "unwritten_location"

-- a note: what it is about, where the text has that, and the sentence
abbrev pub note_text : Note → List ℕ
note_text note =
    object_text (member (codes "kind") (quoted (kind_name note.kind)) ∷ member (codes "line") (number_or_null note.line)
    ∷ member (codes "column") (number_or_null note.column) ∷ member (codes "word") (string_or_null note.word.items)
    ∷ member (codes "message") (quoted note.message.items) ∷ [])

abbrev pub notes_array : List Note → List ℕ
notes_array notes = array_text (map note_text notes)

-- notes, where there are any
abbrev pub notes_members : List Note → List (List ℕ)
notes_members notes = if nat_lt 0 (length notes) then member (codes "notes") (notes_array notes) ∷ [] else []

-- the line of JSON that has a document's members, and then those of the notes
pub record IsLineOf (document : List (List ℕ)) (notes : List Note) (line : List ℕ) : Type 0 where
  pub printed : line ≡ document_of (document ++ notes_members notes)
  pub json : IsJsonLine line
