-- What a search for cycles finds, and keeps.
use Rattle.std.specs.Prelude.{◌≢◌, List, Contains}
use Rattle.std.specs.List.{AllPairs}
use Rattle.candidate_executions.specs.declared.event.Event.{Event}
use Rattle.candidate_executions.specs.declared.event.Kind.{Kind}
use Rattle.program_sketches.specs.ProgramSketches.{ProgramSketch, mode_in}
use Rattle.candidate_executions.specs.Sketches.{IsKnownCycle}

-- a known cycle with no event twice
pub record IsSimpleCycle (s : ProgramSketch) (kind : Kind) (es : List Event) : Type 0 where
  pub cycle : IsKnownCycle s.program (mode_in s) s.chosen kind es
  pub distinct : AllPairs (λ d e. d ≢ e) es

-- no edge leads from e to one of these events
abbrev pub IsEnd : (Event → Event → Type 0) → List Event → Event → Type 0
IsEnd R nodes e = (f : Event) → Contains nodes f → R e f → ⊥

-- an edge leads from e to f, which is one of these events
abbrev pub IsSuccessor : (Event → Event → Type 0) → List Event → Event → Event → Type 0
IsSuccessor R nodes e f = Contains nodes f × R e f

-- an edge leads from each of these events to one of them
abbrev pub EachGoesOn : (Event → Event → Type 0) → List Event → Type 0
EachGoesOn R nodes = (e : Event) → Contains nodes e → (f : Event) × IsSuccessor R nodes e f
