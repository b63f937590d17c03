use Rattle.cert_forest.proofs.FlatRunLaws.{as_many}
use Rattle.cert_forest.proofs.Vocabulary.{◌≡◌, ◌∙◌, length, sym, ap, arith}
use Rattle.cert_forest.proofs.run_list.Runs.len.Goals as goal

pub returns-clause-value : goal.returns-clause-value
returns-clause-value c =
    let many : length c.args.self.now ≡ length c.self.inside.ends.items = ap length (sym c.self.view_is) ∙ as_many 0 c.self.inside.ends.items c.self.inside.labels.items in
    let counted = c.self.inside.ends.ok.0 in
    let len = c.len.ensures in
    omega arith

pub returns-clause-few : goal.returns-clause-few
returns-clause-few c =
    let many : length c.args.self.now ≡ length c.self.inside.ends.items = ap length (sym c.self.view_is) ∙ as_many 0 c.self.inside.ends.items c.self.inside.labels.items in
    let counted = c.self.inside.ends.ok.0 in
    let small = c.self.inside.ends.small in
    omega arith
