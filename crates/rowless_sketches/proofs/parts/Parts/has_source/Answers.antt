use Rattle.rowless_sketches.proofs.Vocabulary.{has_source_by}
use Rattle.rowless_sketches.proofs.parts.Parts.has_source.Goals as goal

pub returns : goal.returns
returns c = has_source_by c.args.self.now c.args.read c.source.result c.is_some.result c.is_some.ensures c.source.ensures
