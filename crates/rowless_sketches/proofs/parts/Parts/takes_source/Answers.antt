use Rattle.rowless_sketches.proofs.Vocabulary.{◌↔◌, IsTrue, Contains, ap, subst}
use Rattle.rowless_sketches.proofs.parts.Parts.takes_source.Goals as goal

pub returns : goal.returns
returns c = subst (λ ps. IsTrue c.has_pair.result ↔ Contains ps (c.args.read, c.args.source)) (ap (λ s. s.chosen.sources) c.self.view_is) c.has_pair.ensures
