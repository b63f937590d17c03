-- What is printed is read again.
use Rattle.std.specs.Prelude.{ℕ, List}
use Rattle.std.specs.Str.{IsUtf8}
use Rattle.gap_sets.specs.Gaps.{SetOfGaps}
use Rattle.text_tokens.specs.Tokens.{Tok}
use Rattle.text_tokens.specs.Lexing.{Lexes}
use Rattle.litmus_syntax.specs.Views.{BodyView, EndingView}
use Rattle.litmus_syntax.specs.Grammar.{IsBody, IsEnding}
use Rattle.litmus_lines.specs.FirstLine.{AreVisible, IsFirstLine}
use Rattle.litmus_lines.specs.SkippedLines.{AreSkipped}
use Rattle.tso_program.specs.declared.listing.Listing.{Listing}
use Rattle.litmus_reader.specs.declared.litmus.Litmus.{Litmus}
use Rattle.litmus_reader.specs.Texts.{IsLitmus, IsFencedLitmus}
use Rattle.litmus_text.specs.Canonical.{litmus_fenced_at, canonical_text}
use Rattle.litmus_text.specs.Spelling.{text_with}
use Rattle.litmus_text.specs.Printable.{IsPrintable, IsPrintableEnding}

-- The text is UTF-8, its first line gives this name, and its other lines, none of which is skipped, are the tokens of this body
-- and this ending.
pub record HasParts (text name : List ℕ) (body : BodyView) (ending : EndingView) : Type 0 where
  pub lines : List ℕ
  pub tokens : List Tok
  pub others : List Tok
  pub utf8 : IsUtf8 text
  pub first_line : IsFirstLine text name lines
  pub skipped : AreSkipped lines lines
  pub lexes : Lexes lines tokens
  pub begins : IsBody body tokens others
  pub ends : IsEnding body.threads ending others

-- Parts that can be printed are the parts of their canonical text.
abbrev pub PrintedPartsAreRead : Type 0
PrintedPartsAreRead =
    (name : List ℕ) (body : BodyView) (ending : EndingView) → AreVisible name → IsPrintable body → IsPrintableEnding body.threads ending
    → HasParts (text_with name body ending) name body ending

-- The canonical text of what a text stands for, fenced at a set of gaps, is the text of that fenced program: with the same
-- name, names and condition, the same places observed, and each label where its instruction or its fence stands.
abbrev pub CanonicalTextIsRead : Type 0
CanonicalTextIsRead =
    (text : List ℕ) (litmus : Litmus Listing) → IsLitmus text litmus → (gaps : SetOfGaps)
    → IsFencedLitmus (canonical_text (litmus_fenced_at gaps litmus)) (litmus_fenced_at gaps litmus)
