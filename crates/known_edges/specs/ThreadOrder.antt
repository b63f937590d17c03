-- Program order between the accesses of one thread, by their indices.
use Rattle.std.specs.Prelude.{◌≡◌, ◌<◌, ℕ, List, Some, slice_get}
use Rattle.candidate_executions.specs.declared.event.Kind.{Kind}
use Rattle.candidate_executions.specs.declared.access.Access.{Access}
use Rattle.thread_traces.specs.ThreadOrder.{IsKeptBy}

-- the union has program order from access i of a thread to access j of it
abbrev pub IsLaterIn : Kind → List Access → ℕ → ℕ → Type 0
IsLaterIn kind accesses i j =
    (i < j) × ((x : Access) × (y : Access) × (slice_get accesses i ≡ Some x) × (slice_get accesses j ≡ Some y) × IsKeptBy kind x y)
