use Rattle.std.proofs.Common.{◌≡◌, take}
use Rattle.std.specs.List.{flat_map}
use Rattle.run_views.specs.Tables.{line_of, widths}
use Rattle.run_views.proofs.table.lines_of.Given as goal

-- the lines so far
abbrev pub invariant-loop-row : goal.invariant-loop-row
invariant-loop-row l = l.out.items ≡ flat_map (line_of (widths l.rows)) (take l.row-index l.rows)
