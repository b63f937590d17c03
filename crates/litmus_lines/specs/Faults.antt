-- What the faults of the lines before the initial values say of a text.
use Rattle.std.specs.Prelude.{◌≡◌, ◌==◌, ◌||◌, ◌&&◌, ◌⊎◌, ◌+◌, ◌-◌, ℕ, Bool, true, false, List, length, take, slice_index, min, count_by, if◌then◌else◌}
use Rattle.std.specs.List.{list_all}
use Rattle.std.specs.Char.{is_ascii_alphabetic}
use Rattle.text_tokens.specs.Space.{IsAfterSpace}
use Rattle.litmus_lines.specs.declared.fault.LineFault.{LineFault}
use Rattle.litmus_lines.specs.declared.fault.LineFault.TheVariants as fault
use Rattle.litmus_lines.specs.FirstLine.{is_inside}
use Rattle.litmus_lines.specs.SkippedLines.{IsSkippedLine}

-- the line on which the byte with this index stands: one more than there are LFs before it, and 4294967295 for each line from there on
abbrev pub line_number : List ℕ → ℕ → ℕ
line_number text index = min (count_by (λ b. b == 10) (take index text)) 4294967294 + 1

-- A first line is refused at line 1: the text has no LF, or it has one.
abbrev pub RefusesFirstLine : List ℕ → LineFault → Type 0
RefusesFirstLine text (fault.Ended at) = (at ≡ 1) × (list_all is_inside text ≡ true)
RefusesFirstLine text (fault.Header at) = (at ≡ 1) × (list_all is_inside text ≡ false)

-- The text is lines that are skipped, with white space and comments before each, and then the rest.
pub data BeginsSkipped : List ℕ → List ℕ → Type 0 where
  nothing : {text : List ℕ} → BeginsSkipped text text
  line : {text rest front others : List ℕ} → BeginsSkipped text rest → IsAfterSpace rest front → IsSkippedLine front others → BeginsSkipped text others

-- the text is empty, or begins as a line that is skipped
abbrev pub is_front_of_skipped : List ℕ → Bool
is_front_of_skipped text = length text == 0 || slice_index text 0 == 34 || is_ascii_alphabetic (slice_index text 0)

-- the text stops, at its last line
abbrev pub ended_at : List ℕ → LineFault
ended_at bytes = fault.Ended (line_number bytes (length bytes))

-- where the bytes end with this text and no line of it is skipped: it stops before such a line does, or another line stands there
abbrev pub fault_at : List ℕ → List ℕ → LineFault
fault_at bytes text =
    if list_all is_inside text && is_front_of_skipped text then ended_at bytes else fault.Header (line_number bytes (length bytes - length text))

-- After lines that are skipped a comment does not end, or what follows white space and comments is not a line that is skipped.
abbrev pub RefusesLines : List ℕ → List ℕ → LineFault → Type 0
RefusesLines bytes lines refused =
    (rest : List ℕ) × BeginsSkipped lines rest
    × ((((text : List ℕ) → IsAfterSpace rest text → ⊥) × (refused ≡ ended_at bytes))
    ⊎ ((text : List ℕ) × IsAfterSpace rest text × ((others : List ℕ) → IsSkippedLine text others → ⊥) × (refused ≡ fault_at bytes text)))
