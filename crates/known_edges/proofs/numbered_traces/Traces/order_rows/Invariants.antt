use Rattle.known_edges.proofs.Vocabulary.{◌≡◌, length, ROW_BITS, InOrder}
use Rattle.known_edges.proofs.Masks.{AreRowsBelow}
use Rattle.known_edges.proofs.numbered_traces.Traces.order_rows.Given as goal

abbrev pub invariant-loop-d : goal.invariant-loop-d
invariant-loop-d l = (length l.rows ≡ ROW_BITS) × AreRowsBelow l.self.events (InOrder l.self.thread_traces l.kind) l.d l.rows
