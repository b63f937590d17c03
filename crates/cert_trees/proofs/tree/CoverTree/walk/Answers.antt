use Rattle.cert_trees.proofs.NodeLaws.{alone, alone_in}
use Rattle.cert_trees.proofs.tree.CoverTree.walk.Goals as goal

pub over-requires : goal.over-requires
over-requires c = alone c.args.self.now c.nodes.result.now c.nodes.ensures

pub returns : goal.returns
returns c = alone_in c.over.result c.args.self.now c.nodes.result.now c.over.ensures c.nodes.ensures
