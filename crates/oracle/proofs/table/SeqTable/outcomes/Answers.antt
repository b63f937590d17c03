use Rattle.oracle.proofs.Vocabulary.{ap, ◌∙◌, Outcome, Table, Vec}
use Rattle.oracle.proofs.table.SeqTable.outcomes.Goals as goal

pub returns : goal.returns
returns c = c.deref-2.ensures.value ∙ ap (λ (v : Vec Outcome). v.items) c.deref.ensures ∙ ap (λ (t : Table). t.outcomes) c.self.view_is
