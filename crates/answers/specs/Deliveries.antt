-- What is printed and what is written to files. `files` says what files hold before it, and `left` what they hold afterwards, where
-- that is known.
use Rattle.std.specs.Prelude.{◌≡◌, ◌⊎◌, ℕ, List, Option, Some, None, IsSome, ⊤}
use Rattle.program_streams.specs.declared.fault.FileFault.TheVariants as file
use Rattle.program_streams.specs.FileLines.{file_line}
use Rattle.program_streams.specs.Streams.{HoldsBytes}
use Rattle.answers.specs.declared.delivery.Answer.{Answer}
use Rattle.answers.specs.Refused.{RefusalSays}

-- each file but the one of this name, where there is one, holds what it held
abbrev pub KeepFiles : Option (List ℕ) → (List ℕ → Option (List ℕ)) → (List ℕ → Option (List ℕ)) → Type 0
KeepFiles named files left = (name : List ℕ) → (named ≡ Some name → ⊥) → left name ≡ files name

-- each file but those of these two names, where there are such, holds what it held
abbrev pub KeepFilesBut : Option (List ℕ) → Option (List ℕ) → (List ℕ → Option (List ℕ)) → (List ℕ → Option (List ℕ)) → Type 0
KeepFilesBut first second files left = (name : List ℕ) → (first ≡ Some name → ⊥) → (second ≡ Some name → ⊥) → left name ≡ files name

-- each file but those of these three names, where there are such, holds what it held
abbrev pub KeepFilesButThree : Option (List ℕ) → Option (List ℕ) → Option (List ℕ) → (List ℕ → Option (List ℕ)) → (List ℕ → Option (List ℕ)) → Type 0
KeepFilesButThree first second third files left = (name : List ℕ) → (first ≡ Some name → ⊥) → (second ≡ Some name → ⊥) → (third ≡ Some name → ⊥) → left name ≡ files name

-- each file holds what it held
abbrev pub KeepAllFiles : (List ℕ → Option (List ℕ)) → (List ℕ → Option (List ℕ)) → Type 0
KeepAllFiles files left = (name : List ℕ) → left name ≡ files name

-- the file that is written, where one is named, holds this text
abbrev pub HoldsFile : Option (List ℕ) → (List ℕ → Option (List ℕ)) → List ℕ → Type 0
HoldsFile None left written = ⊤
HoldsFile (Some name) left written = HoldsBytes (left name) written

-- the two names are not the same
abbrev pub AreTwoNames : Option (List ℕ) → Option (List ℕ) → Type 0
AreTwoNames first second = (name : List ℕ) → first ≡ Some name → second ≡ Some name → ⊥

-- the files that are written, where they are named, hold the two texts; where their names are the same, it holds the second text
pub record HoldsFiles (first second : Option (List ℕ)) (left : List ℕ → Option (List ℕ)) (answer : Answer) : Type 0 where
  pub in_first : AreTwoNames first second → HoldsFile first left answer.first
  pub in_second : HoldsFile second left answer.second

-- the lines with their status where the files that are named hold what is written to them; or that one can't be written
pub data IsDelivered (first second : Option (List ℕ)) (left : List ℕ → Option (List ℕ)) (answer : Answer) : ℕ → List ℕ → Type 0 where
  kept : HoldsFiles first second left answer → IsDelivered first second left answer answer.status answer.lines.items
  not_kept : (text : List ℕ) → IsSome first ⊎ IsSome second → RefusalSays answer.json (file_line file.Write) text → IsDelivered first second left answer 1 text
