use Rattle.held_values.specs.HeldRows.{AreInitial}
use Rattle.held_values.proofs.Bits.{zeros}
use Rattle.held_values.proofs.holders.all_holders.Given as goal

-- those that hold the value at first, and none that may not hold it
abbrev pub invariant-loop-holders : goal.invariant-loop-holders
invariant-loop-holders l = AreInitial l.program l.value l.holders

-- each pass but the last adds one
abbrev pub decreases-loop-holders : goal.decreases-loop-holders
decreases-loop-holders l = zeros l.holders
