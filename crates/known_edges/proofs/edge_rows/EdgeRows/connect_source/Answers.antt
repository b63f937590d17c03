use Rattle.known_edges.proofs.RowsKept.{source_represented}
use Rattle.known_edges.proofs.edge_rows.EdgeRows.connect_source.Goals as goal

pub returns : goal.returns
returns c p sources pairs is may =
    source_represented p c.args.mode.now c.args.traces.now.thread_traces c.args.traces.now.events sources pairs c.args.self.now.later c.args.self.now.main c.args.self.now.global is
    c.args.read c.args.source may c.rows_of_source-rows.result c.rows_of_source-rows.ensures
    c.if_far-far.result c.if_fenced.result c.if_fenced-2.result
    c.connect.new.self c.connect-2.new.self c.connect-3.new.self c.connect-4.new.self
    c.if_far-far.ensures c.if_fenced.ensures c.if_fenced-2.ensures
    c.connect.ensures c.connect-2.ensures c.connect-3.ensures c.connect-4.ensures
