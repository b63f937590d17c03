-- How JSON is written: without a space, and with `\` escapes for what a string may not hold, and for `<`.
use Rattle.std.specs.Prelude.{ℕ, ◌+◌, ◌/◌, ◌%◌, ◌==◌, ◌||◌, Bool, true, false, List, [], ◌∷◌, ◌++◌, codes, nat_lt, if◌then◌else◌}
use Rattle.std.specs.List.{flat_map}

-- ---- strings

-- the digit of a number below 16, in small letters
abbrev pub hex_digit : ℕ → ℕ
hex_digit n = if nat_lt n 10 then 48 + n else 87 + n

-- `\u00` and the two digits of a byte
abbrev pub unicode_escape : ℕ → List ℕ
unicode_escape byte = codes "\\u00" ++ hex_digit (byte / 16) ∷ hex_digit (byte % 16) ∷ []

-- whether a byte is `"` or `\`; whether it is below 0x20, or `<`
abbrev pub needs_backslash : ℕ → Bool
needs_backslash byte = (byte == 34) || (byte == 92)

abbrev pub needs_number : ℕ → Bool
needs_number byte = nat_lt byte 32 || (byte == 60)

-- a byte of a string
unfoldable pub escaped : ℕ → List ℕ
escaped byte = if needs_backslash byte then 92 ∷ byte ∷ [] else if needs_number byte then unicode_escape byte else byte ∷ []

-- a string
abbrev pub quoted : List ℕ → List ℕ
quoted bytes = 34 ∷ (flat_map escaped bytes ++ 34 ∷ [])

-- ---- arrays and objects

abbrev pub after_comma : List ℕ → List ℕ
after_comma text = 44 ∷ text

-- texts with `,` between them
abbrev pub with_commas : List (List ℕ) → List ℕ
with_commas [] = []
with_commas (text ∷ texts) = text ++ flat_map after_comma texts

-- between two bytes
abbrev pub enclosed : ℕ → List (List ℕ) → ℕ → List ℕ
enclosed opening texts closing = opening ∷ (with_commas texts ++ closing ∷ [])

abbrev pub array_text : List (List ℕ) → List ℕ
array_text items = enclosed 91 items 93

-- a name of an object, and the text of its value
abbrev pub member : List ℕ → List ℕ → List ℕ
member name value = quoted name ++ 58 ∷ value

abbrev pub object_text : List (List ℕ) → List ℕ
object_text members = enclosed 123 members 125

-- ---- the rest

abbrev pub null_text : List ℕ
null_text = codes "null"

abbrev pub truth_text : Bool → List ℕ
truth_text true = codes "true"
truth_text false = codes "false"
