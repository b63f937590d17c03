use Rattle.oracle.proofs.Vocabulary.{◌≡◌, ◌∙◌, ap, arc_value, Outcome, Table, Vec}
use Rattle.std.proofs.lemmas.Result.{IfOk-weaker as if_ok}
use Rattle.oracle.proofs.table.SeqTable.shared_outcomes.Goals as goal

pub returns : goal.returns
returns c =
    let s = c.self.inside in
    if_ok c.try_clone.result (λ shared. arc_value shared ≡ arc_value s.outcomes) (λ shared. (arc_value shared).items ≡ c.args.self.now.outcomes)
    (λ shared same. ap (λ (v : Vec Outcome). v.items) same ∙ ap (λ (t : Table). t.outcomes) c.self.view_is) c.try_clone.ensures
