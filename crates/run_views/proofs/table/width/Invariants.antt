use Rattle.std.proofs.Common.{◌≡◌, take}
use Rattle.run_views.specs.Tables.{width}
use Rattle.run_views.proofs.table.width.Given as goal

-- the longest cell so far
abbrev pub invariant-loop-row : goal.invariant-loop-row
invariant-loop-row l = l.most ≡ width (take l.row-index l.rows) l.column
