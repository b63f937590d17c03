use Rattle.std.proofs.Common.{take}
use Rattle.held_values.specs.HeldLists.{AreHolderRows}
use Rattle.held_values.proofs.lists.holder_rows.Given as goal

-- the rows of the values so far
abbrev pub invariant-loop-value : goal.invariant-loop-value
invariant-loop-value l = AreHolderRows l.program (take l.value-index l.values) l.table.items
