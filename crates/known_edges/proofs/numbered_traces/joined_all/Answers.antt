use Rattle.known_edges.proofs.Written.{joined_rows}
use Rattle.known_edges.proofs.numbered_traces.joined_all.Goals as goal

pub returns : goal.returns
returns c = joined_rows c.args.rows.now c.loop-row.row-index c.loop-row.all c.loop-row-test.false c.loop-row.invariant
