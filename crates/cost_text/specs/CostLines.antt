-- What a line of a cost file says.
use Rattle.std.specs.Prelude.{◌≡◌, ℕ, List, [], ◌∷◌, ◌++◌}
use Rattle.std.specs.Str.Parse.{digits_value}
use Rattle.text_tokens.specs.Bytes.{AreBlanks, AreLineSpaces}
use Rattle.text_tokens.specs.Lexing.{AreDigits}

-- decimal digits, at least one, leading zeros included, of this value
abbrev pub IsNumber : List ℕ → ℕ → Type 0
IsNumber digits n = AreDigits digits × (n ≡ digits_value 10 digits)

-- the place before this instruction of this thread
pub record Place : Type 0 where
  pub thread : ℕ
  pub instruction : ℕ

-- a thread's number, `:`, an instruction's number, and blanks
pub record SpellsPlace (text : List ℕ) (place : Place) : Type 0 where
  pub thread : List ℕ
  pub instruction : List ℕ
  pub blanks : List ℕ
  pub spelled : text ≡ thread ++ 58 ∷ (instruction ++ blanks)
  pub of_thread : IsNumber thread place.thread
  pub of_instruction : IsNumber instruction place.instruction
  pub parts : AreBlanks blanks

-- so one place after the other
pub data SpellsPlaces : List ℕ → List Place → Type 0 where
  none : SpellsPlaces [] []
  more : {text rest : List ℕ} {place : Place} {places : List Place} → SpellsPlace text place → SpellsPlaces rest places → SpellsPlaces (text ++ rest) (place ∷ places)

-- that the gaps at these places go together, and cost so much; there is a first place
pub record Said : Type 0 where
  pub first : Place
  pub others : List Place
  pub cost : ℕ

abbrev pub places_of : Said → List Place
places_of said = said.first ∷ said.others

-- The line says it: places, each with blanks after it, and a cost; blanks and CRs may stand around.
pub record Says (line : List ℕ) (said : Said) : Type 0 where
  pub before : List ℕ
  pub places : List ℕ
  pub cost : List ℕ
  pub after : List ℕ
  pub text : line ≡ before ++ (places ++ (cost ++ after))
  pub begins : AreLineSpaces before
  pub of_places : SpellsPlaces places (places_of said)
  pub of_cost : IsNumber cost said.cost
  pub ends : AreLineSpaces after
