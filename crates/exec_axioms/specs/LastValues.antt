-- What is shown of the writes that may be the last of a location.
use Rattle.std.specs.Prelude.{◌≡◌, ℕ, ◌<◌, List, Option, None, MatchOption, length, slice_index_or}
use Rattle.tso_program.specs.declared.limits.TheConstants.{MAX_LOCATIONS}
use Rattle.tso_program.specs.declared.shown.Shown.{Shown}
use Rattle.tso_program.specs.Shown.{shown_value}
use Rattle.candidate_executions.specs.declared.event.Event.{Event}
use Rattle.program_sketches.specs.ProgramSketches.{ProgramSketch}
use Rattle.program_sketches.specs.Writes.{IsLastWith}
use Rattle.rowless_sketches.specs.Endings.{SketchMayEndWith}

-- a write of which P holds and that may be the last of the location writes the value
abbrev pub MayEndBy : ProgramSketch → (Event → Type 0) → ℕ → ℕ → Type 0
MayEndBy s P l v = (e : Event) × P e × IsLastWith s l v e

-- two writes that may be the last of a location have values that are not shown alike
pub record Differ (s : ProgramSketch) (shown : Shown) : Type 0 where
  pub location : ℕ
  pub there : location < length s.program.memory
  pub first : ℕ
  pub second : ℕ
  pub first_ends : SketchMayEndWith s location first
  pub second_ends : SketchMayEndWith s location second
  pub differ : shown_value shown location first ≡ shown_value shown location second → ⊥

-- what is shown of the writes of which P holds and that may be the last of the location, if there are any
abbrev pub IsLastValue : ProgramSketch → Shown → (Event → Type 0) → ℕ → Option ℕ → Type 0
IsLastValue s shown P l last = MatchOption last ((v : ℕ) → MayEndBy s P l v → ⊥)
    (λ u. ((v : ℕ) × MayEndBy s P l v) × ((v : ℕ) → MayEndBy s P l v → shown_value shown l v ≡ u))

-- what is shown of those last writes, for each location
pub record AreLastValues (s : ProgramSketch) (shown : Shown) (P : Event → Type 0) (values : List (Option ℕ)) : Type 0 where
  pub long : length values ≡ MAX_LOCATIONS
  pub each : (l : ℕ) → l < length s.program.memory → IsLastValue s shown P l (slice_index_or values l None)
