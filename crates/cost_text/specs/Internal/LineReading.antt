-- How a line of a cost file is read.
use Rattle.std.specs.Prelude.{◌≡◌, ◌==◌, ℕ, true, List, [], ◌∷◌, map, take, drop, nat_lt, Option, Some, None, if◌then◌else◌}
use Rattle.std.specs.List.{list_all, prefix_len}
use Rattle.std.specs.Char.{is_ascii_digit}
use Rattle.std.specs.Str.Parse.{digits_value}
use Rattle.text_tokens.specs.Bytes.{is_blank, is_line_space, AreLineSpaces}
use Rattle.text_tokens.specs.Steps.{◌>>=◌}
use Rattle.cost_text.specs.CostLines.{Place, Said}

-- the digits that come first, at least one, and what follows them
unfoldable pub digits_at : List ℕ → Option (List ℕ × List ℕ)
digits_at text =
    let n = prefix_len is_ascii_digit text in
    if nat_lt 0 n then Some (take n text, drop n text) else None

-- what follows a `:`
unfoldable pub after_colon : List ℕ → Option (List ℕ)
after_colon [] = None
after_colon (b ∷ bs) = if b == 58 then Some bs else None

-- what follows blanks, at least one
unfoldable pub after_blanks : List ℕ → Option (List ℕ)
after_blanks text =
    let n = prefix_len is_blank text in
    if nat_lt 0 n then Some (drop n text) else None

-- what follows blanks and CRs
abbrev pub after_line_spaces : List ℕ → List ℕ
after_line_spaces text = drop (prefix_len is_line_space text) text

-- the digits of a place
pub record PlaceDigits : Type 0 where
  pub thread : List ℕ
  pub instruction : List ℕ

-- the digits of the place that comes first, and what follows its blanks
unfoldable pub place_at : List ℕ → Option (PlaceDigits × List ℕ)
place_at text = do
  t ← digits_at text
  u ← after_colon t.1
  k ← digits_at u
  rest ← after_blanks k.1
  Some (record { thread = t.0; instruction = k.0 }, rest)

-- these are the places that come first, one after the other, and what follows them
pub data ReadsPlaces : List ℕ → List PlaceDigits → List ℕ → Type 0 where
  ended : {text : List ℕ} → place_at text ≡ None → ReadsPlaces text [] text
  begun : {text rest end : List ℕ} {place : PlaceDigits} {places : List PlaceDigits} → place_at text ≡ Some (place, rest) → ReadsPlaces rest places end → ReadsPlaces text (place ∷ places) end

-- the digits of a line: of its places, and of the cost
pub record LineDigits : Type 0 where
  pub first : PlaceDigits
  pub others : List PlaceDigits
  pub cost : List ℕ

-- they are read in the line
pub record ReadsLine (line : List ℕ) (digits : LineDigits) : Type 0 where
  pub rest : List ℕ
  pub after : List ℕ
  pub places : ReadsPlaces (after_line_spaces line) (digits.first ∷ digits.others) rest
  pub cost : digits_at rest ≡ Some (digits.cost, after)
  pub ends : AreLineSpaces after

-- each of them is a digit
pub record AreAllDigits (digits : PlaceDigits) : Type 0 where
  pub thread : list_all is_ascii_digit digits.thread ≡ true
  pub instruction : list_all is_ascii_digit digits.instruction ≡ true

-- the place
abbrev pub place_of : PlaceDigits → Place
place_of digits = record { thread = digits_value 10 digits.thread; instruction = digits_value 10 digits.instruction }

-- what a line with these digits says
abbrev pub said_by : LineDigits → Said
said_by digits = record { first = place_of digits.first; others = map place_of digits.others; cost = digits_value 10 digits.cost }
