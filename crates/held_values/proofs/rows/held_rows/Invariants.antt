use Rattle.held_values.proofs.RowsHeld.{AreHeldUpTo}
use Rattle.held_values.proofs.rows.held_rows.Given as goal

-- the rows before the instruction have been put into those that they lead to
abbrev pub invariant-loop-k : goal.invariant-loop-k
invariant-loop-k l = AreHeldUpTo l.program l.value l.t l.locations l.k l.rows.items
