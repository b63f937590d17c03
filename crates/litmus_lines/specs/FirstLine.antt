-- The first line of a litmus text.
-- The form is a part of that of herd's X86 litmus files (Alglave, Maranget and Tautschnig, Herding Cats, TOPLAS 2014);
-- docs/formats.md tells which.
use Rattle.std.specs.Prelude.{◌≡◌, ◌==◌, ◌&&◌, ◌<◌, ℕ, Bool, true, nat_le, List, ◌∷◌, ◌++◌, length, codes, not}
use Rattle.std.specs.List.{list_all}
use Rattle.text_tokens.specs.Bytes.{AreBlanks, AreLineSpaces}

-- a byte that is no LF
abbrev pub is_inside : ℕ → Bool
is_inside b = not (b == 10)

-- a visible ASCII character: one of `!` to `~`
abbrev pub is_visible : ℕ → Bool
is_visible b = nat_le 33 b && nat_le b 126

-- visible characters, at least one
abbrev pub AreVisible : List ℕ → Type 0
AreVisible bytes = (0 < length bytes) × (list_all is_visible bytes ≡ true)

-- The line, without its LF, is `X86`, blanks, the name, and then blanks and CRs or nothing.
abbrev pub IsHeading : List ℕ → List ℕ → Type 0
IsHeading line name =
    (blanks : List ℕ) × (trailing : List ℕ) × (line ≡ codes "X86" ++ (blanks ++ (name ++ trailing)))
    × AreBlanks blanks × AreVisible name × AreLineSpaces trailing

-- The text begins with a first line that gives the test its name, and goes on with the rest.
abbrev pub IsFirstLine : List ℕ → List ℕ → List ℕ → Type 0
IsFirstLine text name rest = (line : List ℕ) × (text ≡ line ++ 10 ∷ rest) × IsHeading line name
