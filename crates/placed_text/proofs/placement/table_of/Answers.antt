use Rattle.placed_text.proofs.Vocabulary.{◌∙◌}
use Rattle.placed_text.proofs.placement.table_of.Goals as goal

pub returns : goal.returns
returns c = c.with_ties.ensures.question ∙ (λ i. record (c.in_ok-table.ensures.question i) { ties = c.in_ok-ties.ensures i })
