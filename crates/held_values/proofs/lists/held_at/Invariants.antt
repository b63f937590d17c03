use Rattle.std.proofs.Common.{◌≡◌, ◌++◌, drop}
use Rattle.held_values.specs.HeldLists.{held_of}
use Rattle.held_values.proofs.lists.held_at.Given as goal

-- with those of the rest after them, they are those of all values
abbrev pub invariant-loop-n : goal.invariant-loop-n
invariant-loop-n l = l.held.items ++ held_of (drop l.n l.values) (drop l.n l.table) l.l ≡ held_of l.values l.table l.l
