use Rattle.rowless_sketches.proofs.Vocabulary.{◌↔◌, IsTrue, Contains, ap, subst}
use Rattle.rowless_sketches.proofs.parts.Parts.before.Goals as goal

pub returns : goal.returns
returns c = subst (λ ps. IsTrue c.has_pair.result ↔ Contains ps (c.args.first, c.args.second)) (ap (λ s. s.chosen.pairs) c.self.view_is) c.has_pair.ensures
