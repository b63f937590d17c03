use Rattle.known_edges.proofs.ThreadRows.{IsLaterBelow}
use Rattle.known_edges.proofs.thread_rows.later_than.Given as goal

-- the later accesses so far
abbrev pub invariant-loop-j : goal.invariant-loop-j
invariant-loop-j l = IsLaterBelow l.kind l.accesses l.i l.j l.row
