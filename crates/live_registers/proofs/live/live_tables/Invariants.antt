use Rattle.std.proofs.Common.{◌≡◌, ℕ, ◌<◌, [], length, slice_index_or}
use Rattle.live_registers.specs.LiveRows.{IsLiveTable}
use Rattle.live_registers.proofs.live.live_tables.Given as goal

-- the tables so far
abbrev pub invariant-loop-t : goal.invariant-loop-t
invariant-loop-t l = record { many : length l.tables.items ≡ l.t; each : (u : ℕ) → u < l.t → IsLiveTable l.program l.shown u (slice_index_or l.tables.items u []) }
