-- The accesses in what threads do, and whether each thread has come to its end.
use Rattle.std.specs.Prelude.{◌≡◌, ◌<◌, ℕ, List, [], Option, None, Some, slice_get, length}
use Rattle.std.specs.Option.{option_map_or}
use Rattle.candidate_executions.specs.declared.access.Access.{Access}
use Rattle.candidate_executions.specs.declared.event.Event.{Event, TheVariants.Initial, TheVariants.Access as At}
use Rattle.thread_traces.specs.declared.thread_trace.ThreadTrace.{ThreadTrace}

-- the accesses of thread t, none where there is no such thread
abbrev pub accesses_at : List ThreadTrace → ℕ → List Access
accesses_at thread_traces t = option_map_or (λ (c : ThreadTrace). c.accesses) (slice_get thread_traces t) []

-- what an access reads and writes
abbrev pub traced_access : List ThreadTrace → Event → Option Access
traced_access thread_traces (Initial l) = None
traced_access thread_traces (At t i) = slice_get (accesses_at thread_traces t) i

-- an access of some thread
abbrev pub IsOfThreads : List ThreadTrace → Event → Type 0
IsOfThreads thread_traces (Initial l) = ⊥
IsOfThreads thread_traces (At t i) = i < length (accesses_at thread_traces t)

-- each thread has come to its end: no read is without a value
abbrev pub EachEnds : List ThreadTrace → Type 0
EachEnds thread_traces = (t : ℕ) (c : ThreadTrace) → slice_get thread_traces t ≡ Some c → c.next ≡ None
