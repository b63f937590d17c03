-- The lines between the first line of a text and its initial values.
-- The form is a part of that of herd's X86 litmus files (Alglave, Maranget and Tautschnig, Herding Cats, TOPLAS 2014);
-- docs/formats.md tells which.
use Rattle.std.specs.Prelude.{◌≡◌, ◌==◌, ◌||◌, ◌&&◌, ℕ, Bool, true, List, ◌∷◌, ◌++◌, drop, slice_index}
use Rattle.std.specs.List.{list_all, list_any}
use Rattle.std.specs.Char.{is_ascii_alphabetic}
use Rattle.text_tokens.specs.Space.{IsAfterSpace}
use Rattle.litmus_lines.specs.FirstLine.{is_inside}

-- the line begins with `"` and has a second `"`
abbrev pub is_quoted : List ℕ → Bool
is_quoted line = slice_index line 0 == 34 && list_any (λ b. b == 34) (drop 1 line)

-- the line begins with a letter and has `=`
abbrev pub is_information : List ℕ → Bool
is_information line = is_ascii_alphabetic (slice_index line 0) && list_any (λ b. b == 61) line

-- such lines are skipped
abbrev pub is_skipped : List ℕ → Bool
is_skipped line = is_quoted line || is_information line

-- The text is a line that is skipped with its LF, and then the rest.
abbrev pub IsSkippedLine : List ℕ → List ℕ → Type 0
IsSkippedLine text rest =
    (line : List ℕ) × (text ≡ line ++ 10 ∷ rest) × (list_all is_inside line ≡ true) × (is_skipped line ≡ true)

-- The text is such lines and then the rest, which begins with `{`. White space and comments may stand before each line and before `{`.
pub data AreSkipped : List ℕ → List ℕ → Type 0 where
  brace : {text rest : List ℕ} → IsAfterSpace text rest → slice_index rest 0 ≡ 123 → AreSkipped text rest
  line : {text front others rest : List ℕ} → IsAfterSpace text front → IsSkippedLine front others → AreSkipped others rest → AreSkipped text rest
