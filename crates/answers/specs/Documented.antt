-- Texts with their documents.
use Rattle.std.specs.Prelude.{◌≡◌, ℕ, Bool, List, Option, Some, None, ⊤, if◌then◌else◌}
use Rattle.documents.specs.declared.note.Note.{Note}
use Rattle.run_page.specs.Pages.{page_text}
use Rattle.answers.specs.declared.delivery.Answer.{Answer}
use Rattle.answers.specs.Notes.{IsNoted}

-- the document, where it is asked for in place of the text
abbrev pub printed : Bool → List ℕ → List ℕ → List ℕ
printed json text document = if json then document else text

-- the page of a document, where a file is named for it
abbrev pub IsPageFor : Option (List ℕ) → List ℕ → List ℕ → Type 0
IsPageFor None document page = ⊤
IsPageFor (Some name) document page = page ≡ page_text document

-- What is delivered of a text, with this status: it or the line of its document is printed, and the first file that is written, where
-- it is named, has the page of that line. Of the graph in the second file nothing is said.
pub record DeliversDocument (status : ℕ) (json : Bool) (page : Option (List ℕ)) (text document : List ℕ) (answer : Answer) : Type 0 where
  pub lines : answer.lines.items ≡ printed json text document
  pub ends : answer.status ≡ status
  pub as_asked : answer.json ≡ json
  pub paged : IsPageFor page document answer.first

-- What is delivered of a text, where the document's line has what is said beside the answer too.
pub record DeliversNoted (status : ℕ) (json : Bool) (page : Option (List ℕ)) (text : List ℕ) (document : List (List ℕ)) (verdict : Option Note) (answer : Answer) : Type 0 where
  pub line : List ℕ
  pub noted : IsNoted verdict document line
  pub delivered : DeliversDocument status json page text line answer
