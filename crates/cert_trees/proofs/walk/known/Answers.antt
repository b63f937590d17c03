use Rattle.cert_trees.proofs.Vocabulary.{subst, BeginsKnown}
use Rattle.cert_trees.proofs.WalkSteps.{only_known}
use Rattle.cert_trees.proofs.walk.known.Goals as goal

pub unreachable-requires : goal.unreachable-requires
unreachable-requires c = only_known c.in-Some.first.now c.in-Some.rest.now (subst BeginsKnown c.in-Some.ensures.cases.0 c.requires) c.in_default.not-Known
