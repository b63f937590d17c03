use Rattle.held_values.specs.HeldRows.{AreHeldRows}
use Rattle.held_values.proofs.PassesMade.{IsPassedUpTo}
use Rattle.held_values.proofs.holders.pass_on.Given as goal

-- what the instructions so far give
abbrev pub invariant-loop-k : goal.invariant-loop-k
invariant-loop-k l = (are : AreHeldRows l.program l.value l.t l.fn.from l.rows.items) × IsPassedUpTo l.program l.value l.t l.fn.from l.fn.holders l.rows.items are l.k l.holders
