-- What is left to be chosen in a sketch.
use Rattle.candidate_executions.specs.declared.event.Event.{Event}
use Rattle.candidate_executions.specs.Sketches.{IsPair}
use Rattle.program_sketches.specs.ProgramSketches.{ProgramSketch, mode_in}
use Rattle.program_sketches.specs.Choices.{IsRead, HasSource, IsOrdered, MayFollow}
use Rattle.tree_laws.specs.CoverTrees.{event_of}
use Rattle.cover_judge.specs.Choices.{IsValueOpen, IsSourceOpen}
use Rattle.tree_laws.specs.declared.choice.OpenChoice.{OpenChoice, TheVariants.Value, TheVariants.Source, TheVariants.Order}

-- the event is a read that has no source
pub record NeedsSource (s : ProgramSketch) (e : Event) : Type 0 where
  pub is_read : IsRead s e
  pub free : HasSource s e → ⊥

-- the events are two writes to one location, neither of them initial, in no order
pub record NeedsOrder (s : ProgramSketch) (d e : Event) : Type 0 where
  pub is_pair : IsPair s.program (mode_in s) s.chosen d e
  pub free : IsOrdered s d e → ⊥

-- this is left to be chosen; sources and orders are once each read has its value
abbrev pub IsOpen : ProgramSketch → OpenChoice → Type 0
IsOpen s (Value t) = IsValueOpen s t
IsOpen s (Source read) = IsSourceOpen s read
IsOpen s (Order first second) = MayFollow s (event_of first) (event_of second)
