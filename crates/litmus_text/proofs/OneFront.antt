-- The first line of a text, the lines that are skipped, and the tokens are determined.
use Rattle.std.proofs.Common.{◌≡◌, ◌==◌, ℕ, false, List, arith, inl, inr}
use Rattle.std.specs.Prelude.{slice_index}
use Rattle.std.proofs.lemmas.Bool.{cases_Bool}
use Rattle.litmus_lines.specs.SkippedLines.{IsSkippedLine, AreSkipped, brace, line}
use Rattle.std.proofs.lemmas.Bool.Decides.{nat_tests}
use Rattle.litmus_lines.proofs.FaultLaws.{space_once}
use Rattle.litmus_lines.proofs.SkippedLaws.{line_read, line_only, no_brace_line, line_back, brace_back}

-- and one follows a line that is skipped
line_once : (text rest other : List ℕ) → IsSkippedLine text rest → IsSkippedLine text other → rest ≡ other
line_once text rest other h g = let r = line_read text rest h in line_only text r.0 rest other r.1 g

-- no line that is skipped begins with `{`
no_brace_first : (text rest : List ℕ) → IsSkippedLine text rest → (slice_index text 0 == 123) ≡ false
no_brace_first text rest h =
    elim (cases_Bool (slice_index text 0 == 123)) [ inl is ↦ absurd (no_brace_line text rest (grind (arith, nat_tests)) h) | inr other ↦ other ]

pub skipped_once : (text a b : List ℕ) → AreSkipped text a → AreSkipped text b → a ≡ b
skipped_once text a b (brace s e) g = brace_back text a b (λ r t. space_once text a r s t) (grind (arith, nat_tests)) g
skipped_once text a b (line {front = f} {others = us} s h more) g =
    skipped_once us a b more (line_back text f us b (λ r t. space_once text f r s t) (no_brace_first f us h) (λ r i. line_once f us r h i) g)
