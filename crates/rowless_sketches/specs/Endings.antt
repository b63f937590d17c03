-- The parts of how a sketch must end.
use Rattle.std.specs.Prelude.{◌≡◌, ◌==◌, ℕ, ◌<◌, Bool, List, length, map, slice_index}
use Rattle.std.specs.List.{range_with_len}
use Rattle.tso_program.specs.declared.shown.Shown.{Shown}
use Rattle.tso_program.specs.Shown.{shown_value}
use Rattle.candidate_executions.specs.declared.event.Event.{Event, TheVariants.Access as At}
use Rattle.candidate_executions.specs.Candidates.{IsAccess}
use Rattle.candidate_executions.specs.Sketches.{given_to}
use Rattle.program_sketches.specs.ProgramSketches.{ProgramSketch, mode_in, trace_in}
use Rattle.program_sketches.specs.Writes.{IsLastWith}

-- the registers where the threads stop
abbrev pub final_registers : ProgramSketch → List (List ℕ)
final_registers s = map (λ t. (trace_in s t).last.registers) (range_with_len 0 (length s.program.threads))

-- a write that may be the last of the location writes the value
abbrev pub SketchMayEndWith : ProgramSketch → ℕ → ℕ → Type 0
SketchMayEndWith s l v = (e : Event) × IsLastWith s l v e

-- an access of the sketch
abbrev pub IsOwn : ProgramSketch → Event → Type 0
IsOwn s e = IsAccess s.program (mode_in s) (given_to s.chosen) e

-- the held value is shown of each write that may be the last of the location
abbrev pub EndsSo : ProgramSketch → Shown → ℕ → ℕ → Type 0
EndsSo s shown l held = (v : ℕ) → SketchMayEndWith s l v → shown_value shown l v ≡ held

-- the memory has these values
pub record HasEnds (s : ProgramSketch) (shown : Shown) (memory : List ℕ) : Type 0 where
  pub long : length memory ≡ length s.program.memory
  pub each : (l : ℕ) → l < length memory → EndsSo s shown l (slice_index memory l)

-- a write that may be the last of the location writes a value that is this one, or is not
abbrev pub MayBe : ProgramSketch → ℕ → ℕ → Bool → Type 0
MayBe s l v is = (w : ℕ) × SketchMayEndWith s l w × ((w == v) ≡ is)

-- a write of which P holds, and that may be the last of the location, writes a value that is this one, or is not
abbrev pub MayBeBy : ProgramSketch → ℕ → ℕ → Bool → (Event → Type 0) → Type 0
MayBeBy s l v is P = (e : Event) × P e × ((w : ℕ) × IsLastWith s l w e × ((w == v) ≡ is))

-- an access of thread t
abbrev pub IsOfThread : ℕ → Event → Type 0
IsOfThread t e = (i : ℕ) × (e ≡ At t i)

-- the memory has what is shown of e's value, if e may be the last write of a location
abbrev pub HasEndOf : ProgramSketch → Shown → List ℕ → Event → Type 0
HasEndOf s shown memory e = (l v : ℕ) → l < length memory → IsLastWith s l v e → shown_value shown l v ≡ slice_index memory l
