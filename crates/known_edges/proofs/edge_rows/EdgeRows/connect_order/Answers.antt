use Rattle.known_edges.proofs.RowsKept.{pair_represented}
use Rattle.known_edges.proofs.edge_rows.EdgeRows.connect_order.Goals as goal

pub returns : goal.returns
returns c p pairs is may =
    pair_represented p c.args.mode.now c.args.traces.now.thread_traces c.args.traces.now.events c.args.sources.now pairs c.args.self.now.later c.args.self.now.main c.args.self.now.global is
    c.args.first c.args.second may c.rows_of_order-rows.result c.rows_of_order-rows.ensures c.if_fenced.result c.put_rows.new.next c.connect.new.self c.connect-2.new.self
    c.if_fenced.ensures c.put_rows.ensures c.connect.ensures c.connect-2.ensures
