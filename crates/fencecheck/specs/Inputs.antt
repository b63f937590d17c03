-- An input with a litmus text and a certificate after it.
use Rattle.std.specs.Prelude.{◌≡◌, ◌⊎◌, ℕ, ◌+◌, ◌<◌, ◌≤◌, List, [], ◌∷◌, ◌++◌, Option, IsTrue, codes, drop, length, nat_eq, take}
use Rattle.std.specs.List.{starts_with}
use Rattle.std.specs.Io.KnownBytes.{Consumes}
use Rattle.program_streams.specs.Streams.{HoldsBytes}
use Rattle.program_streams.specs.Files.{ReadsOfInput}
use Rattle.program_streams.specs.declared.files.TheConstants.{TEXT_LIMIT}
use Rattle.fencecheck.specs.declared.parts.TheConstants.{CERTIFICATE_LIMIT, FRONT_LIMIT}

-- after these bytes a line begins: there are no bytes, or the last is LF
abbrev pub BeginsLine : List ℕ → Type 0
BeginsLine before = (before ≡ []) ⊎ ((front : List ℕ) × (before ≡ front ++ 10 ∷ []))

-- a line that begins as a certificate does stands at this place
abbrev pub StartsAt : List ℕ → ℕ → Type 0
StartsAt bytes place = BeginsLine (take place bytes) × IsTrue (starts_with nat_eq (drop place bytes) (codes "FENCECERT "))

-- the place of the first such line, or the end
pub record IsCertificateStart (bytes : List ℕ) (place : ℕ) : Type 0 where
  pub there : (place ≡ length bytes) ⊎ StartsAt bytes place
  pub first : (earlier : ℕ) → earlier < place → StartsAt bytes earlier → ⊥

-- the litmus text goes up to the first line that begins as a certificate does, and the certificate from there on
pub record AreJoined (bytes litmus certificate : List ℕ) : Type 0 where
  pub joined : bytes ≡ litmus ++ certificate
  pub start : IsCertificateStart bytes (length litmus)

-- each of the two is within its limit
pub record ArePartsOf (bytes litmus certificate : List ℕ) : Type 0 where
  pub parts : AreJoined bytes litmus certificate
  pub litmus_within : length litmus ≤ TEXT_LIMIT
  pub certificate_within : length certificate ≤ CERTIFICATE_LIMIT

-- the litmus text is longer than its limit: there are more bytes, and no certificate starts within the limit or at its end
pub record HasLongLitmus (bytes : List ℕ) : Type 0 where
  pub longer : TEXT_LIMIT < length bytes
  pub no_start : (place : ℕ) → place ≤ TEXT_LIMIT → StartsAt bytes place → ⊥

-- the certificate is longer than its limit, and the litmus text isn't
pub record HasLongCertificate (bytes : List ℕ) : Type 0 where
  pub litmus : List ℕ
  pub certificate : List ℕ
  pub parts : AreJoined bytes litmus certificate
  pub litmus_within : length litmus ≤ TEXT_LIMIT
  pub longer : CERTIFICATE_LIMIT < length certificate

-- one of the two is, in what the reader had, where that is known
abbrev pub IsTooLongInput : Option (List ℕ) → Type 0
IsTooLongInput input = (bytes : List ℕ) × HoldsBytes input bytes × (HasLongLitmus bytes ⊎ HasLongCertificate bytes)

-- What is read of an input: as many bytes at most as show that no certificate starts within the limit of the litmus text or at
-- its end. Where one starts there, its limit and one byte more at most, from its start on.
pub record ReadsEnough (old new : Option (List ℕ)) : Type 0 where
  pub bytes : List ℕ
  pub taken : Consumes old new bytes
  pub few : (length bytes ≤ FRONT_LIMIT) ⊎ ((start : ℕ) × (start ≤ TEXT_LIMIT) × IsCertificateStart bytes start × (length bytes ≤ start + CERTIFICATE_LIMIT + 1))

-- What is read of the input for the words after the program's name: with no words no more than shows that a part of it is too
-- long; where files are named, no more than shows that the litmus file is, and nothing where that is not `-`. Nothing is read
-- where the words are no command.
abbrev pub ReadsForVerdict : List (List ℕ) → Option (List ℕ) → Option (List ℕ) → Type 0
ReadsForVerdict [] old new = ReadsEnough old new
ReadsForVerdict (litmus ∷ []) old new = new ≡ old
ReadsForVerdict (litmus ∷ certificate ∷ []) old new = ReadsOfInput TEXT_LIMIT litmus old new
ReadsForVerdict (litmus ∷ certificate ∷ costs ∷ []) old new = ReadsOfInput TEXT_LIMIT litmus old new
ReadsForVerdict (litmus ∷ certificate ∷ costs ∷ word ∷ words) old new = new ≡ old
