use Rattle.known_edges.proofs.Written.{AreWriteRowsBelow}
use Rattle.known_edges.proofs.numbered_traces.write_rows.Given as goal

-- the writes among the events so far
abbrev pub invariant-loop-d : goal.invariant-loop-d
invariant-loop-d l = AreWriteRowsBelow l.thread_traces l.events l.d l.rows
