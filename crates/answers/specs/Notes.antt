-- What is said beside an answer.
use Rattle.std.specs.Prelude.{◌≡◌, ℕ, List, [], ◌∷◌, ◌++◌, Option, Some, None, All, ⊤}
use Rattle.documents.specs.declared.note.Note.{Note}
use Rattle.documents.specs.declared.note.NoteKind.{NoteKind}
use Rattle.documents.specs.declared.note.NoteKind.TheVariants as kinds
use Rattle.documents.specs.Notes.{IsLineOf}

-- what the note of a slip is about: no verdict
abbrev pub IsSlipKind : NoteKind → Type 0
IsSlipKind kinds.NoFenceMends = ⊥
IsSlipKind kinds.HappensSequentially = ⊥
IsSlipKind kinds.UnusedName = ⊤
IsSlipKind kinds.JumpBeforeCmp = ⊤
IsSlipKind kinds.UnwrittenRegister = ⊤
IsSlipKind kinds.LoneName = ⊤
IsSlipKind kinds.UnwrittenLocation = ⊤

abbrev pub AreSlips : List Note → Type 0
AreSlips notes = All (λ note. IsSlipKind note.kind) notes

-- the second notes are the first, and slips after them
abbrev pub AddsSlips : List Note → List Note → Type 0
AddsSlips before after = (slips : List Note) × AreSlips slips × (after ≡ before ++ slips)

-- the verdict, where there is one
abbrev pub verdict_notes : Option Note → List Note
verdict_notes None = []
verdict_notes (Some note) = note ∷ []

-- the verdict, where there is one, and slips after it
abbrev pub AreNotes : Option Note → List Note → Type 0
AreNotes verdict notes = AddsSlips (verdict_notes verdict) notes

-- the line is that of the document with such notes
abbrev pub IsNoted : Option Note → List (List ℕ) → List ℕ → Type 0
IsNoted verdict document line = (notes : List Note) × AreNotes verdict notes × IsLineOf document notes line
