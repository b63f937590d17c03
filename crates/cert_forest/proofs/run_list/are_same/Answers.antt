use Rattle.cert_forest.proofs.Vocabulary.{◌≡◌, Decides, rules, slice_eq-Decides}
use Rattle.cert_forest.proofs.run_list.are_same.Goals as goal

pub returns : goal.returns
returns c =
    let decides : Decides c.eq.result (c.args.run.now ≡ c.args.labels.now) = slice_eq-Decides (λ a b. search rules) c.args.run.now c.args.labels.now c.eq.result c.eq.ensures in
    search rules
