use Rattle.placed_text.proofs.Vocabulary.{◌∙◌, sym}
use Rattle.placed_text.proofs.ReasonTexts.{none_said, some_said}
use Rattle.placed_text.proofs.explaining.reasons_or_none.Goals as goal

pub returns-then-is_empty : goal.returns-then-is_empty
returns-then-is_empty c = c.none_line.ensures ∙ none_said c.args.shown.now c.args.reasons.now (sym c.is_empty.ensures ∙ c.if-is_empty.true)

pub returns-else-is_empty : goal.returns-else-is_empty
returns-else-is_empty c = some_said c.args.shown.now c.args.reasons.now (sym c.is_empty.ensures ∙ c.if-is_empty.false)
