-- The front of a litmus text, all that stands before `{`, and why it is refused.
use Rattle.std.specs.Prelude.{◌≡◌, ◌⊎◌, ℕ, List}
use Rattle.std.specs.Str.{IsUtf8}
use Rattle.std.specs.Str.Lossy.{utf8_valid_len}
use Rattle.litmus_lines.specs.declared.fault.LineFault.{LineFault}
use Rattle.litmus_lines.specs.FirstLine.{IsFirstLine}
use Rattle.litmus_lines.specs.SkippedLines.{AreSkipped}
use Rattle.litmus_lines.specs.Faults.{line_number, RefusesFirstLine, RefusesLines}
use Rattle.litmus_reader.specs.declared.fault.ReadFault.{ReadFault, TheVariants.NotUtf8}
use Rattle.litmus_reader.specs.Faults.{of_lines}

-- The text has a front: it is UTF-8, its first line names the test, and lines that are skipped lead to `{`.
pub record HasFront (text : List ℕ) : Type 0 where
  pub name : List ℕ
  pub lines : List ℕ
  pub others : List ℕ
  pub utf8 : IsUtf8 text
  pub first_line : IsFirstLine text name lines
  pub skipped : AreSkipped lines others

-- The text is not UTF-8, and the first byte that is not stands on this line.
pub record IsNotUtf8 (text : List ℕ) (fault : ReadFault) : Type 0 where
  pub none : IsUtf8 text → ⊥
  pub at_line : fault ≡ NotUtf8 (line_number text (utf8_valid_len text))

-- The text is UTF-8, and its first line names no test.
pub record NamesNoTest (text : List ℕ) (fault : ReadFault) : Type 0 where
  pub utf8 : IsUtf8 text
  pub none : (name lines : List ℕ) → IsFirstLine text name lines → ⊥
  pub why : LineFault
  pub refused : RefusesFirstLine text why
  pub at_line : fault ≡ of_lines why

-- The text is UTF-8, its first line names a test, and what follows does not lead to `{`.
pub record LeadsNowhere (text : List ℕ) (fault : ReadFault) : Type 0 where
  pub name : List ℕ
  pub lines : List ℕ
  pub utf8 : IsUtf8 text
  pub first_line : IsFirstLine text name lines
  pub none : (others : List ℕ) → AreSkipped lines others → ⊥
  pub why : LineFault
  pub refused : RefusesLines text lines why
  pub at_line : fault ≡ of_lines why

-- why a text has no front, the first cause first
abbrev pub RefusesFront : List ℕ → ReadFault → Type 0
RefusesFront text fault = IsNotUtf8 text fault ⊎ (NamesNoTest text fault ⊎ LeadsNowhere text fault)
