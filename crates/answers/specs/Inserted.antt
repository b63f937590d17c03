-- The litmus text with the fences put in, and its file. `files` says what files hold before it is written, and `left` what they hold
-- afterwards.
use Rattle.std.specs.Prelude.{◌≡◌, ℕ, List, Option, None, Some, IsSome, codes, ⊤}
use Rattle.program_streams.specs.declared.fault.FileFault.TheVariants as file
use Rattle.program_streams.specs.FileLines.{file_line}
use Rattle.inserted_text.specs.Inserted.{StandsAsPrinted}
use Rattle.report.specs.Faults.{refused}
use Rattle.answers.specs.declared.inserted.Unkept.{Unkept}
use Rattle.answers.specs.declared.inserted.Unkept.TheVariants as unkept
use Rattle.answers.specs.Deliveries.{HoldsFile, KeepAllFiles}

-- where a file is named for it, it stands for what the printed text stands for; or there is none
abbrev pub IsInserted : Option (List ℕ) → List ℕ → Option (List ℕ) → Type 0
IsInserted None printed inserted = IsSome inserted
IsInserted (Some name) printed None = ⊤
IsInserted (Some name) printed (Some text) = StandsAsPrinted printed text

-- there is such a text, and the file that is named for it holds it
pub record HoldsInserted (named inserted : Option (List ℕ)) (left : List ℕ → Option (List ℕ)) : Type 0 where
  pub text : List ℕ
  pub made : inserted ≡ Some text
  pub held : HoldsFile named left text

-- why its file does not hold it: there is none, and no file is changed; or the file can't be written
abbrev pub IsNotKept : Option (List ℕ) → Option (List ℕ) → (List ℕ → Option (List ℕ)) → (List ℕ → Option (List ℕ)) → Unkept → Type 0
IsNotKept named inserted files left unkept.NotInserted = (inserted ≡ None) × KeepAllFiles files left
IsNotKept named inserted files left unkept.Unwritten = IsSome named

-- why the litmus text with the fences put in is not kept
abbrev pub unkept_line : Unkept → List ℕ
unkept_line unkept.NotInserted = refused (codes "place 6 NotInserted")
unkept_line unkept.Unwritten = file_line file.Write
