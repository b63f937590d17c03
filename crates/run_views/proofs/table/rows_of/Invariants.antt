use Rattle.std.proofs.Common.{◌≡◌, take}
use Rattle.run_views.specs.Tables.{rows_of}
use Rattle.run_views.proofs.table.rows_of.Given as goal

-- the lines so far
abbrev pub invariant-loop-step : goal.invariant-loop-step
invariant-loop-step l = l.rows.items ≡ rows_of l.litmus (take l.step-index l.steps)
