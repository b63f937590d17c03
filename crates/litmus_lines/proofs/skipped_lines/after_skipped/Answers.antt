use Rattle.litmus_lines.proofs.Vocabulary.{◌∙◌, sym}
use Rattle.litmus_lines.proofs.SkippedLaws.{line_is, line_only, other_line, no_line}
use Rattle.litmus_lines.proofs.skipped_lines.after_skipped.Goals as goal

pub returns-in_default-clause-none : goal.returns-in_default-clause-none
returns-in_default-clause-none c other h = no_line c.args.text.now other c.in_default.ensures h

pub returns-then-is_skipped-clause-some : goal.returns-then-is_skipped-clause-some
returns-then-is_skipped-clause-some c =
    line_is c.args.text.now c.in-Some.line.now c.in-Some.rest.now (sym c.in-Some.ensures) (sym c.is_skipped.ensures ∙ c.if-is_skipped.true)

pub returns-then-is_skipped-clause-only : goal.returns-then-is_skipped-clause-only
returns-then-is_skipped-clause-only c other h = line_only c.args.text.now c.in-Some.line.now c.in-Some.rest.now other (sym c.in-Some.ensures) h

pub returns-else-is_skipped-clause-none : goal.returns-else-is_skipped-clause-none
returns-else-is_skipped-clause-none c other h =
    other_line c.args.text.now c.in-Some.line.now c.in-Some.rest.now other (sym c.in-Some.ensures) (sym c.is_skipped.ensures ∙ c.if-is_skipped.false) h
