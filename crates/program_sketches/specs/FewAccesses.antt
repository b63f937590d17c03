-- Few accesses of a sketch, with small numbers.
use Rattle.std.specs.Prelude.{◌<◌, ◌≤◌, List, Contains, length}
use Rattle.candidate_executions.specs.declared.event.Event.{Event, TheVariants.Initial, TheVariants.Access as At}
use Rattle.program_sketches.specs.ProgramSketches.{ProgramSketch, mode_in}
use Rattle.tso_program.specs.declared.limits.TheConstants.{MAX_THREADS, MAX_ACCESSES}
use Rattle.candidate_executions.specs.Candidates.{IsAccess}
use Rattle.candidate_executions.specs.Sketches.{given_to}

-- one of the first accesses of one of the first threads, as many as a program has
abbrev pub HasSmallNumbers : Event → Type 0
HasSmallNumbers (Initial l) = ⊥
HasSmallNumbers (At t i) = (t < MAX_THREADS) × (i < MAX_ACCESSES)

-- accesses of the sketch, no more than a program has
pub record AreFewAccesses (s : ProgramSketch) (es : List Event) : Type 0 where
  pub few : length es ≤ MAX_ACCESSES
  pub accesses : (e : Event) → Contains es e → IsAccess s.program (mode_in s) (given_to s.chosen) e
  pub small : (e : Event) → Contains es e → HasSmallNumbers e
