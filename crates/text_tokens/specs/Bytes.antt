-- The bytes that the text formats tell apart.
use Rattle.std.specs.Prelude.{◌≡◌, ◌<◌, ◌==◌, ◌||◌, ◌&&◌, ℕ, Bool, true, List, length, nat_le}
use Rattle.std.specs.List.{list_all}
use Rattle.std.specs.Char.{is_ascii_digit}

-- a space or a tab
abbrev pub is_blank : ℕ → Bool
is_blank b = b == 32 || b == 9

-- a blank or a CR: white space within a line
abbrev pub is_line_space : ℕ → Bool
is_line_space b = is_blank b || b == 13

-- white space: a blank, a CR or a LF
abbrev pub is_white_space : ℕ → Bool
is_white_space b = is_line_space b || b == 10

-- blanks, at least one
abbrev pub AreBlanks : List ℕ → Type 0
AreBlanks bytes = (0 < length bytes) × (list_all is_blank bytes ≡ true)

-- blanks and CRs, or nothing
abbrev pub AreLineSpaces : List ℕ → Type 0
AreLineSpaces bytes = list_all is_line_space bytes ≡ true

-- an ASCII letter or `_`
abbrev pub is_letter : ℕ → Bool
is_letter b = (nat_le 65 b && nat_le b 90) || (nat_le 97 b && nat_le b 122) || b == 95

-- a letter, `_` or a digit
abbrev pub is_word_byte : ℕ → Bool
is_word_byte b = is_letter b || is_ascii_digit b
