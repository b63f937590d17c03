use Rattle.witness_text.proofs.Vocabulary.{◌∙◌}
use Rattle.witness_text.proofs.witness.told.Goals as goal

pub returns-clause-printed : goal.returns-clause-printed
returns-clause-printed c = (c.deref.result.now, (c.args.steps.now, c.requires.steps, c.deref.ensures.value ∙ c.in_ok-table.ensures), c.in_ok-lines.ensures)
