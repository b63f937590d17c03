use Rattle.cert_pages.proofs.Vocabulary.{◌++◌, draft_text, gap_text, Early}
use Rattle.cert_forest.proofs.GapNodeLaws.{next_gap_is_shorter}
use Rattle.cert_pages.proofs.WrittenNodes.{early_node_written}
use Rattle.cert_pages.proofs.writer.write_early_gap.Goals as goal

pub loop-walk-smaller : goal.loop-walk-smaller
loop-walk-smaller c = next_gap_is_shorter c.loop-walk.walk c.next_node-node.new.self c.next_node-node.result c.next_node-node.ensures

pub loop-walk-preserved : goal.loop-walk-preserved
loop-walk-preserved c =
    early_node_written c.loop-walk.inside c.is_run-inside.result c.bound_len-runs.result c.loop-walk.walk c.next_node-node.new.self c.next_node-node.result (draft_text c.loop-walk.out) (draft_text c.write_early_node.new.out) (draft_text c.args.out.now ++ gap_text Early c.args.tree.now)
    c.bound_len-runs.ensures c.is_run-inside.ensures c.next_node-node.ensures c.in_ok-write_early_node.ensures c.loop-walk.invariant
