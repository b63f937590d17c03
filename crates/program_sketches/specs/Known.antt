-- The edges that a sketch knows, and their cycles.
use Rattle.std.specs.Prelude.{◌≡◌, List, Contains}
use Rattle.candidate_executions.specs.declared.event.Event.{Event, TheVariants.Initial, TheVariants.Access as At}
use Rattle.candidate_executions.specs.declared.event.Kind.{Kind}
use Rattle.candidate_executions.specs.declared.event.Kind.TheVariants as union
use Rattle.candidate_executions.specs.declared.access.Access.{Access}
use Rattle.candidate_executions.specs.Consistency.{Precedes, SameThread, KeepsOrder}
use Rattle.candidate_executions.specs.Sketches.{Sketch, IsKnownCycle}
use Rattle.program_sketches.specs.ProgramSketches.{ProgramSketch, mode_in}

-- no known edges make a cycle
abbrev pub HasNoCycle : ProgramSketch → Type 0
HasNoCycle s = (kind : Kind) (es : List Event) → IsKnownCycle s.program (mode_in s) s.chosen kind es → ⊥

-- some known edges make a cycle
abbrev pub HasCycle : ProgramSketch → Type 0
HasCycle s = (kind : Kind) × ((es : List Event) × IsKnownCycle s.program (mode_in s) s.chosen kind es)

-- an initial write
abbrev pub IsInitialWrite : Event → Type 0
IsInitialWrite (Initial l) = Unit {0}
IsInitialWrite (At t i) = ⊥

-- the program order of a union
abbrev pub OrderPart : Kind → Event → Access → Event → Access → Type 0
OrderPart union.Sequential d x e y = Precedes d e
OrderPart union.Location d x e y = Precedes d e × (x.location ≡ y.location)
OrderPart union.Global d x e y = Precedes d e × KeepsOrder x y

-- the known reads-from of a union
abbrev pub SourcePart : Sketch → Kind → Event → Event → Type 0
SourcePart k union.Global d e = Contains k.sources (e, d) × (SameThread d e → ⊥)
SourcePart k _ d e = Contains k.sources (e, d)
