use Rattle.cert_forest.proofs.Vocabulary.{arith, ValueHead}
use Rattle.cert_forest.proofs.CoverLaws.{HeadFits, value_takes}
use Rattle.cert_forest.proofs.root.value_root.Goals as goal

pub overflow_cast-thread : goal.overflow_cast-thread
overflow_cast-thread c =
    let fits : HeadFits (ValueHead c.in_ok-thread.thread c.in_ok-thread.count) = (value_takes c.args.bytes.now (ValueHead c.in_ok-thread.thread c.in_ok-thread.count, c.in_ok-thread.rest.now) c.in_ok-thread.ensures).1 in
    omega (arith, fits.0)

pub overflow_cast-count : goal.overflow_cast-count
overflow_cast-count c =
    let fits : HeadFits (ValueHead c.in_ok-thread.thread c.in_ok-thread.count) = (value_takes c.args.bytes.now (ValueHead c.in_ok-thread.thread c.in_ok-thread.count, c.in_ok-thread.rest.now) c.in_ok-thread.ensures).1 in
    omega (arith, fits.1)
