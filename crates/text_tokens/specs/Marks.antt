-- The marks of a litmus text.
use Rattle.std.specs.Prelude.{◌==◌, ℕ, Bool, List, codes, Option, Some, None, if◌then◌else◌}
use Rattle.text_tokens.specs.declared.token.Mark.{Mark}
use Rattle.text_tokens.specs.declared.token.Mark.TheVariants.{OpenBrace, CloseBrace, OpenBracket, CloseBracket, OpenParen, CloseParen, Semicolon, Bar, Colon, Equals, Comma, Dollar, Tilde, And, Or}

-- how a mark is written
abbrev pub mark_text : Mark → List ℕ
mark_text OpenBrace = codes "{"
mark_text CloseBrace = codes "}"
mark_text OpenBracket = codes "["
mark_text CloseBracket = codes "]"
mark_text OpenParen = codes "("
mark_text CloseParen = codes ")"
mark_text Semicolon = codes ";"
mark_text Bar = codes "|"
mark_text Colon = codes ":"
mark_text Equals = codes "="
mark_text Comma = codes ","
mark_text Dollar = codes "$"
mark_text Tilde = codes "~"
mark_text And = codes "/\\"
mark_text Or = codes "\\/"

-- the mark that begins with this byte
unfoldable pub mark_from : ℕ → Option Mark
mark_from b =
    if b == 123 then Some OpenBrace else if b == 125 then Some CloseBrace else
    if b == 91 then Some OpenBracket else if b == 93 then Some CloseBracket else
    if b == 40 then Some OpenParen else if b == 41 then Some CloseParen else
    if b == 59 then Some Semicolon else if b == 124 then Some Bar else
    if b == 58 then Some Colon else if b == 61 then Some Equals else
    if b == 44 then Some Comma else if b == 36 then Some Dollar else
    if b == 126 then Some Tilde else if b == 47 then Some And else
    if b == 92 then Some Or else None

-- a mark's number, by which marks are compared
abbrev pub mark_code : Mark → ℕ
mark_code OpenBrace = 0
mark_code CloseBrace = 1
mark_code OpenBracket = 2
mark_code CloseBracket = 3
mark_code OpenParen = 4
mark_code CloseParen = 5
mark_code Semicolon = 6
mark_code Bar = 7
mark_code Colon = 8
mark_code Equals = 9
mark_code Comma = 10
mark_code Dollar = 11
mark_code Tilde = 12
mark_code And = 13
mark_code Or = 14

-- whether two marks are the same
abbrev pub same_mark : Mark → Mark → Bool
same_mark m n = mark_code m == mark_code n
