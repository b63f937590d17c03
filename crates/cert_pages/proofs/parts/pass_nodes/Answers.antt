use Rattle.cert_pages.proofs.Vocabulary.{◌-◌, after}
use Rattle.cert_pages.proofs.PartLaws.{one_more, none_left, all_passed}
use Rattle.cert_pages.proofs.parts.pass_nodes.Goals as goal

pub loop-preserved : goal.loop-preserved
loop-preserved c = one_more c.args.nodes c.loop.counter c.loop.walk c.next_node.new.self (after c.args.nodes c.args.walk.now) c.next_node.result c.loop-test.true c.next_node.ensures c.loop.invariant

pub returns : goal.returns
returns c = all_passed c.args.nodes c.loop.counter c.loop.walk (after c.args.nodes c.args.walk.now) c.loop-test.false c.loop.invariant

pub returns-then-is_done : goal.returns-then-is_done
returns-then-is_done c = none_left (c.args.nodes - c.loop.counter) c.loop.walk (after c.args.nodes c.args.walk.now) (c.is_done.ensures.0 c.if-is_done.true) c.loop.invariant
