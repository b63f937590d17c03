-- Which accesses write a location, and which may be its last write.
use Rattle.std.specs.Prelude.{ℕ, Contains}
use Rattle.candidate_executions.specs.declared.event.Event.{Event, TheVariants.Access as At}
use Rattle.candidate_executions.specs.Candidates.{Writes}
use Rattle.candidate_executions.specs.Sketches.{MayBeLast}
use Rattle.program_sketches.specs.ProgramSketches.{ProgramSketch, mode_in, access_in}

-- e writes the value to the location, and may be its last write
abbrev pub IsLastWith : ProgramSketch → ℕ → ℕ → Event → Type 0
IsLastWith s l v e = Writes (access_in s) e l v × MayBeLast s.program (mode_in s) s.chosen l e

-- a chosen pair puts a write after e
abbrev pub HasLater : ProgramSketch → Event → Type 0
HasLater s e = (d : Event) × Contains s.chosen.pairs (e, d)

-- e writes the location
abbrev pub WritesTo : ProgramSketch → Event → ℕ → Type 0
WritesTo s e l = (v : ℕ) × Writes (access_in s) e l v

-- an access of thread t writes the location
abbrev pub IsWrittenBy : ProgramSketch → ℕ → ℕ → Type 0
IsWrittenBy s t l = (i : ℕ) × WritesTo s (At t i) l

-- some access writes the location
abbrev pub IsWritten : ProgramSketch → ℕ → Type 0
IsWritten s l = (t : ℕ) × IsWrittenBy s t l
