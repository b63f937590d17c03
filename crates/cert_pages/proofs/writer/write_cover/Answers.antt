use Rattle.cert_pages.proofs.Vocabulary.{◌++◌, draft_text, cover_text, next_is_shorter}
use Rattle.cert_pages.proofs.WrittenNodes.{node_written}
use Rattle.cert_pages.proofs.writer.write_cover.Goals as goal

pub loop-walk-smaller : goal.loop-walk-smaller
loop-walk-smaller c = next_is_shorter c.loop-walk.walk c.next_node.new.self c.next_node.result c.next_node.ensures

pub loop-walk-preserved : goal.loop-walk-preserved
loop-walk-preserved c =
    node_written c.loop-walk.walk c.next_node.new.self c.next_node.result (draft_text c.loop-walk.out) (draft_text c.write_node.new.out) (draft_text c.args.out.now ++ cover_text c.args.tree.now)
    c.next_node.ensures c.in_ok-write_node.ensures c.loop-walk.invariant
