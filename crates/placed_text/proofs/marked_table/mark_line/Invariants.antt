use Rattle.std.proofs.Common.{◌≡◌, ◌++◌, drop}
use Rattle.placed_text.specs.MarkedTables.{mark_line}
use Rattle.placed_text.proofs.marked_table.mark_line.Given as goal

-- what is made of the bytes so far, and what is left to be made of the others
abbrev pub invariant-loop-at : goal.invariant-loop-at
invariant-loop-at l = l.marked.items ++ mark_line l.left l.mark (drop l.at l.text) ≡ mark_line l.before l.mark l.text
