use Rattle.cert_forest.proofs.Vocabulary.{arith, IfSome_then}
use Rattle.cert_forest.proofs.TreeSteps.{cover_leaf}
use Rattle.cert_forest.proofs.cover_tree.leaf.Goals as goal

pub returns : goal.returns
returns c = IfSome_then c.unsourced_read.result c.unsourced_read.ensures (λ x e. cover_leaf c.args.depth c.args.bytes.now x.1.now x.0 (omega arith) e)
