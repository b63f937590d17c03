-- What a reader gives and what a writer takes, where their bytes are known.
use Rattle.std.specs.Prelude.{◌≡◌, ◌≢◌, ◌⊎◌, ℕ, ◌<◌, ◌≤◌, List, [], ◌∷◌, ◌++◌, Option, Some, None, Result, IsOkAnd, take, length, All, ⊤}
use Rattle.std.specs.Global.{Vec}
use Rattle.std.specs.Io.KnownBytes.{Appends, Consumes, IsAtEnd}
use Rattle.program_streams.specs.declared.fault.FileFault.{FileFault}
use Rattle.program_streams.specs.declared.fault.FileFault.TheVariants as file

-- the bytes that the reader had, where they are known, are these
abbrev pub HoldsBytes : Option (List ℕ) → List ℕ → Type 0
HoldsBytes None bytes = Unit {0}
HoldsBytes (Some xs) bytes = xs ≡ bytes

-- the reader gave so many bytes
abbrev pub TakesBytes : Option (List ℕ) → Option (List ℕ) → ℕ → Type 0
TakesBytes old new n = (bytes : List ℕ) × Consumes old new bytes × (length bytes ≡ n)

-- the reader gave no more than so many bytes
abbrev pub TakesUpTo : Option (List ℕ) → Option (List ℕ) → ℕ → Type 0
TakesUpTo old new n = (bytes : List ℕ) × Consumes old new bytes × (length bytes ≤ n)

-- the bytes that the reader gave stand after those before
abbrev pub ReadsOn : Option (List ℕ) → Option (List ℕ) → List ℕ → List ℕ → Type 0
ReadsOn old new before after = (bytes : List ℕ) × Consumes old new bytes × (after ≡ before ++ bytes)

-- the bytes that the reader had, where they are known, stand after those before
abbrev pub AppendsRest : Option (List ℕ) → List ℕ → List ℕ → Type 0
AppendsRest old before after = (bytes : List ℕ) × HoldsBytes old bytes × (after ≡ before ++ bytes)

-- the reader gave a line: up to its first line feed, or all that it had
pub record TakesLine (old new : Option (List ℕ)) (line : List ℕ) : Type 0 where
  pub one_line : All (λ b. b ≢ 10) line
  pub taken : Consumes old new (line ++ 10 ∷ []) ⊎ (Consumes old new line × IsAtEnd new)

-- the reader gave so many bytes of one line
pub record TakesOfLine (old new : Option (List ℕ)) (n : ℕ) : Type 0 where
  pub bytes : List ℕ
  pub one_line : All (λ b. b ≢ 10) bytes
  pub taken : Consumes old new bytes
  pub count : length bytes ≡ n

-- why bytes weren't read: a read failed or memory was wanting; or they are too many, and then this holds
abbrev pub IsReadFault : Type 0 → FileFault → Type 0
IsReadFault too_many file.Read = ⊤
IsReadFault too_many file.Write = ⊥
IsReadFault too_many file.TooLong = too_many

-- the writer took a front of the bytes, and not all of them
abbrev pub AppendsFront : Option (List ℕ) → Option (List ℕ) → List ℕ → Type 0
AppendsFront old new bytes = (n : ℕ) × (n < length bytes) × Appends old new (take n bytes)

-- What is printed, where `Texts` says which texts may be, each with its status: the writer took such a text, and the
-- result is its status; or the writer failed and took only a front of it, or memory was wanting and it took nothing, and
-- the result is 1.
pub data Prints (Texts : ℕ → List ℕ → Type 0) (old new : Option (List ℕ)) : ℕ → Type 0 where
  whole : (status : ℕ) (text : List ℕ) → Texts status text → Appends old new text → Prints Texts old new status
  front : (status : ℕ) (text : List ℕ) → Texts status text → AppendsFront old new text → Prints Texts old new 1
  nothing : Appends old new [] → Prints Texts old new 1

-- the text could be made, and it is the one that goes with this status
abbrev pub IsMade : {E : Type 0} → Result (Vec ℕ) E → ℕ → ℕ → List ℕ → Type 0
IsMade made wanted status text = (status ≡ wanted) × IsOkAnd made (λ bytes. bytes.items ≡ text)
