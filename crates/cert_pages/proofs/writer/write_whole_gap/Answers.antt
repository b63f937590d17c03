use Rattle.cert_pages.proofs.Vocabulary.{◌++◌, draft_text, gap_text, Whole}
use Rattle.cert_forest.proofs.GapNodeLaws.{next_gap_is_shorter}
use Rattle.cert_pages.proofs.WrittenNodes.{gap_node_written}
use Rattle.cert_pages.proofs.writer.write_whole_gap.Goals as goal

pub loop-walk-smaller : goal.loop-walk-smaller
loop-walk-smaller c = next_gap_is_shorter c.loop-walk.walk c.next_node.new.self c.next_node.result c.next_node.ensures

pub loop-walk-preserved : goal.loop-walk-preserved
loop-walk-preserved c =
    gap_node_written c.loop-walk.walk c.next_node.new.self c.next_node.result (draft_text c.loop-walk.out) (draft_text c.write_gap_node.new.out) (draft_text c.args.out.now ++ gap_text Whole c.args.tree.now)
    c.next_node.ensures c.in_ok-write_gap_node.ensures c.loop-walk.invariant
