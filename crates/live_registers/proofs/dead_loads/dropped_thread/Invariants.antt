use Rattle.std.proofs.Common.{◌≡◌, ◌++◌, drop}
use Rattle.dataflow_laws.specs.DeadLoads.{dropped_code}
use Rattle.live_registers.specs.DeadPlaces.{dead_at}
use Rattle.live_registers.proofs.dead_loads.dropped_thread.Given as goal

-- with the rest after it, it is the thread without the loads
abbrev pub invariant-loop-k : goal.invariant-loop-k
invariant-loop-k l = l.slim ++ dropped_code (dead_at l.code l.rows) l.k (drop l.k l.code) ≡ dropped_code (dead_at l.code l.rows) 0 l.code
