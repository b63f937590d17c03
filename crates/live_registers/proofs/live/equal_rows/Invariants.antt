use Rattle.std.proofs.Common.{◌≡◌, ℕ, ◌<◌, [], length, slice_index_or}
use Rattle.live_registers.proofs.live.equal_rows.Given as goal

-- the rows so far
abbrev pub invariant-loop-i : goal.invariant-loop-i
invariant-loop-i l = record { long : length l.rows.items ≡ l._i; each : (j : ℕ) → j < l._i → slice_index_or l.rows.items j [] ≡ l.row }
