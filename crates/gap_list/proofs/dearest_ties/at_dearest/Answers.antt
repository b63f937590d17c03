use Rattle.gap_list.proofs.Vocabulary.{◌∙◌}
use Rattle.gap_list.proofs.dearest_ties.at_dearest.Goals as goal

pub returns-in-Ok : goal.returns-in-Ok
returns-in-Ok c = λ i. record { costs = (c.in-Ok.ensures.value ∙ c.deref.ensures.value ∙ c.in_ok-list.ensures) i; ties = c.args.ties }
