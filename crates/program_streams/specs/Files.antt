-- The bytes of a file by its name, where `-` is an input.
use Rattle.std.specs.Prelude.{◌≡◌, ◌≢◌, ℕ, ◌+◌, ◌≤◌, List, Option, Some, None, codes, length}
use Rattle.program_streams.specs.declared.fault.FileFault.{FileFault}
use Rattle.program_streams.specs.Streams.{HoldsBytes, IsReadFault, TakesBytes, TakesUpTo}

-- the bytes are all that is held, where that is known, and no more than the limit
abbrev pub AreWithin : ℕ → Option (List ℕ) → List ℕ → Type 0
AreWithin limit held bytes = (length bytes ≤ limit) × HoldsBytes held bytes

-- more bytes are held than the limit
abbrev pub IsTooLong : ℕ → Option (List ℕ) → Type 0
IsTooLong limit held = (rest : Option (List ℕ)) × TakesBytes held rest (limit + 1)

-- the bytes of the file of this name, no more than the limit; `-` is the input
pub record AreOfFile (limit : ℕ) (name : List ℕ) (input : Option (List ℕ)) (files : List ℕ → Option (List ℕ)) (bytes : List ℕ) : Type 0 where
  pub of_input : name ≡ codes "-" → AreWithin limit input bytes
  pub of_file : name ≢ codes "-" → AreWithin limit (files name) bytes

-- that file is longer than the limit
pub record IsLongFile (limit : ℕ) (name : List ℕ) (input : Option (List ℕ)) (files : List ℕ → Option (List ℕ)) : Type 0 where
  pub of_input : name ≡ codes "-" → IsTooLong limit input
  pub of_file : name ≢ codes "-" → IsTooLong limit (files name)

-- why that file isn't read
abbrev pub IsFileFault : ℕ → List ℕ → Option (List ℕ) → (List ℕ → Option (List ℕ)) → FileFault → Type 0
IsFileFault limit name input files = IsReadFault (IsLongFile limit name input files)

-- What is read of the input where the file of this name is: no more than one byte past the limit where it is `-`, and nothing
-- otherwise.
pub record ReadsOfInput (limit : ℕ) (name : List ℕ) (old new : Option (List ℕ)) : Type 0 where
  pub of_input : name ≡ codes "-" → TakesUpTo old new (limit + 1)
  pub of_file : name ≢ codes "-" → new ≡ old

-- the bytes of the file of a name that may be given, no more than the limit
abbrev pub AreOfFileIfNamed : ℕ → Option (List ℕ) → (List ℕ → Option (List ℕ)) → Option (List ℕ) → Type 0
AreOfFileIfNamed limit None files bytes = bytes ≡ None
AreOfFileIfNamed limit (Some name) files None = ⊥
AreOfFileIfNamed limit (Some name) files (Some bytes) = AreWithin limit (files name) bytes

-- why that file isn't read: a name is given, and this is why the file of that name isn't read
pub record IsNamedFileFault (limit : ℕ) (named : Option (List ℕ)) (files : List ℕ → Option (List ℕ)) (why : FileFault) : Type 0 where
  pub name : List ℕ
  pub is_named : named ≡ Some name
  pub is_fault : IsReadFault (IsTooLong limit (files name)) why

-- the files hold what they held, but maybe the one of this name
abbrev pub KeepOthers : List ℕ → (List ℕ → Option (List ℕ)) → (List ℕ → Option (List ℕ)) → Type 0
KeepOthers name old new = (other : List ℕ) → other ≢ name → new other ≡ old other
