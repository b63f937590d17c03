-- Complete sketches.
use Rattle.candidate_executions.specs.declared.event.Event.{Event}
use Rattle.candidate_executions.specs.Sketches.{IsPair, IsWhole}
use Rattle.program_sketches.specs.ProgramSketches.{ProgramSketch, mode_in}
use Rattle.program_sketches.specs.Choices.{IsRead, HasSource, IsOrdered}

-- a read has its source
abbrev pub HasItsSource : ProgramSketch → Event → Type 0
HasItsSource s e = IsRead s e → HasSource s e

-- two writes to one location, neither of them initial, are in order
abbrev pub IsOrderedWith : ProgramSketch → Event → Event → Type 0
IsOrderedWith s d e = IsPair s.program (mode_in s) s.chosen d e → IsOrdered s d e

-- nothing is left to choose: each read has its value and its source, and each two writes to one location, neither of them initial, are in order
pub record IsComplete (s : ProgramSketch) : Type 0 where
  pub whole : IsWhole s.program (mode_in s) s.chosen
  pub sources : (e : Event) → HasItsSource s e
  pub pairs : (d e : Event) → IsOrderedWith s d e
