use Rattle.cert_trees.proofs.Vocabulary.{spell_gap, gap_trees_in}
use Rattle.cert_trees.proofs.{Spelled.alone_are, Spelled.alone_is, GapNodeLaws.gaps_back}
use Rattle.cert_trees.proofs.tree.GapTree.walk.Goals as goal

pub over-requires : goal.over-requires
over-requires c = alone_are spell_gap gap_trees_in gaps_back c.args.self.now c.nodes.result.now c.nodes.ensures

pub returns : goal.returns
returns c = alone_is spell_gap gap_trees_in gaps_back c.over.result c.args.self.now c.nodes.result.now c.over.ensures c.nodes.ensures
