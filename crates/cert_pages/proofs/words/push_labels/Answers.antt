use Rattle.cert_pages.proofs.Vocabulary.{spelling, spaced}
use Rattle.cert_pages.proofs.Writing.{pushed}
use Rattle.cert_pages.proofs.words.push_labels.Goals as goal

pub loop-label-preserved : goal.loop-label-preserved
loop-label-preserved c = pushed spaced spelling c.args.labels.now c.loop-label.label-index _ c.args.out.now.items c.loop-label.out.items _ c.loop-label-test.true c.loop-label.invariant c.in_ok-push_label.ensures
