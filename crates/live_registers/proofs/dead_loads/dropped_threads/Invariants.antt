use Rattle.std.proofs.Common.{◌≡◌, ◌++◌, drop}
use Rattle.dataflow_laws.specs.DeadLoads.{dropped_threads}
use Rattle.live_registers.specs.DeadPlaces.{dead_by}
use Rattle.live_registers.proofs.dead_loads.dropped_threads.Given as goal

-- with the rest after them, they are the threads without the loads
abbrev pub invariant-loop-t : goal.invariant-loop-t
invariant-loop-t l = l.threads.items ++ dropped_threads (dead_by l.program l.tables) l.t (drop l.t l.program.threads) ≡ dropped_threads (dead_by l.program l.tables) 0 l.program.threads
