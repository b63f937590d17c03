-- Program order between the accesses of one thread.
use Rattle.std.specs.Prelude.{◌≡◌}
use Rattle.candidate_executions.specs.declared.event.Kind.{Kind}
use Rattle.candidate_executions.specs.declared.event.Kind.TheVariants as union
use Rattle.candidate_executions.specs.declared.access.Access.{Access}
use Rattle.candidate_executions.specs.Consistency.{KeepsOrder}

-- the union has program order from an access to a later one of its thread
abbrev pub IsKeptBy : Kind → Access → Access → Type 0
IsKeptBy union.Sequential x y = Unit {0}
IsKeptBy union.Location x y = x.location ≡ y.location
IsKeptBy union.Global x y = KeepsOrder x y
