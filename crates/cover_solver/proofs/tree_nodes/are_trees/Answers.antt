use Rattle.std.proofs.Common.{arith}
use Rattle.cert_trees.specs.declared.node.Node.TheVariants as node
use Rattle.cover_solver.proofs.SpelledNodes.{one_node_more}
use Rattle.cover_solver.proofs.tree_nodes.are_trees.Goals as goal

pub loop-start-preserved : goal.loop-start-preserved
loop-start-preserved c = record {
  within = let h = c.loop-start.invariant.within in omega arith;
  spell = one_node_more c.args.nodes.now c.loop-start.start c.in-Some.more (node.Value 0 0) c.loop-start-test.true c.loop-start.invariant.within c.in-Some.ensures;
}
