use Rattle.std.proofs.Common.{◌≡◌, map}
use Rattle.std.specs.List.{range_with_len}
use Rattle.run_views.specs.Tables.{width}
use Rattle.run_views.proofs.table.widths.Given as goal

-- the widths so far
abbrev pub invariant-loop-column : goal.invariant-loop-column
invariant-loop-column l = l.all.items ≡ map (width l.rows) (range_with_len 0 l.column)
