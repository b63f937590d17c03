use Rattle.cert_pages.proofs.Vocabulary.{◌++◌, ◌-◌, draft_text, trees_text, after}
use Rattle.cert_pages.proofs.{WrittenNodes.node_written, PartLaws.one_more, PartLaws.none_left, PartLaws.all_passed}
use Rattle.cert_pages.proofs.parts.write_nodes.Goals as goal

pub loop-preserved : goal.loop-preserved
loop-preserved c = record {
  text = node_written c.loop.walk c.next_node.new.self c.next_node.result (draft_text c.loop.out) (draft_text c.write_node.new.out) (draft_text c.args.out.now ++ trees_text c.args.walk.now)
      c.next_node.ensures c.in_ok-write_node.ensures c.loop.invariant.text;
  walk = one_more c.args.nodes c.loop.counter c.loop.walk c.next_node.new.self (after c.args.nodes c.args.walk.now) c.next_node.result c.loop-test.true c.next_node.ensures c.loop.invariant.walk;
}

pub returns-clause-walk : goal.returns-clause-walk
returns-clause-walk c = all_passed c.args.nodes c.loop.counter c.loop.walk (after c.args.nodes c.args.walk.now) c.loop-test.false c.loop.invariant.walk

pub returns-then-is_done-clause-walk : goal.returns-then-is_done-clause-walk
returns-then-is_done-clause-walk c = none_left (c.args.nodes - c.loop.counter) c.loop.walk (after c.args.nodes c.args.walk.now) (c.is_done.ensures.0 c.if-is_done.true) c.loop.invariant.walk
