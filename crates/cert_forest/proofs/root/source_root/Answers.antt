use Rattle.cert_forest.proofs.Vocabulary.{arith, SourceHead}
use Rattle.cert_forest.proofs.CoverLaws.{HeadFits, source_takes}
use Rattle.cert_forest.proofs.root.source_root.Goals as goal

pub overflow_cast-count : goal.overflow_cast-count
overflow_cast-count c =
    let fits : HeadFits (SourceHead c.in_ok-read.read c.in_ok-read.count) = (source_takes c.args.bytes.now (SourceHead c.in_ok-read.read c.in_ok-read.count, c.in_ok-read.rest.now) c.in_ok-read.ensures).1 in
    omega (arith, fits.1)
