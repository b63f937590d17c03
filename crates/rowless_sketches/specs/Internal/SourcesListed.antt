-- Sources of a read, listed by thread and index.
use Rattle.std.specs.Prelude.{◌↔◌, ℕ, List, Contains}
use Rattle.std.specs.List.{AllPairs}
use Rattle.candidate_executions.specs.declared.event.Event.{Event, TheVariants.Access as At}
use Rattle.candidate_executions.specs.Events.{ComesBefore}
use Rattle.candidate_executions.specs.Sketches.{IsSourceOf}
use Rattle.program_sketches.specs.ProgramSketches.{ProgramSketch, mode_in}

-- those that come before access i of thread t, in their order
pub record AreListedTo (s : ProgramSketch) (read : Event) (t i : ℕ) (listed : List Event) : Type 0 where
  pub exact : (e : Event) → Contains listed e ↔ (ComesBefore e (At t i) × IsSourceOf s.program (mode_in s) s.chosen e read)
  pub ordered : AllPairs ComesBefore listed
