-- Sketches without rows.
use Rattle.std.specs.Prelude.{◌≡◌, ◌↔◌, ℕ, List, Some, Contains, slice_get}
use Rattle.std.specs.List.{AllPairs}
use Rattle.candidate_executions.specs.declared.event.Event.{Event}
use Rattle.candidate_executions.specs.Events.{ComesBefore}
use Rattle.candidate_executions.specs.Sketches.{IsSourceOf}
use Rattle.thread_traces.specs.declared.thread_trace.ThreadTrace.{ThreadTrace}
use Rattle.program_sketches.specs.ProgramSketches.{ProgramSketch, mode_in}
use Rattle.program_sketches.specs.Kept.{view_of, given_in, KeepsTraces}
use Rattle.program_sketches.specs.Choices.{IsRead, HasSource}
use Rattle.tso_program.specs.declared.listing.Listing.{Listing}
use Rattle.tso_machine.specs.declared.mode.Mode.{Mode}
use Rattle.thread_traces.specs.declared.trace_tree.TraceTree.{TraceTree}
use Rattle.thread_traces.specs.ValueLists.{IsValueList}
use Rattle.thread_traces.specs.TraceTrees.{IsTraceTree}

-- what is kept of a thread before it is given a value
pub record MarkedThread : Type 0 where
  pub thread : ℕ
  pub trace : ThreadTrace

-- the mark is of a thread of the sketch
pub record IsValueMarkOf (mark : MarkedThread) (s : ProgramSketch) : Type 0 where
  pub traces : List ThreadTrace
  pub seen : s ≡ view_of s.program s.mode traces s.chosen.sources s.chosen.pairs
  pub kept : KeepsTraces s.program s.mode traces s.chosen.sources s.chosen.pairs
  pub there : slice_get traces mark.thread ≡ Some mark.trace

-- these are the sources of a read, in their order: the initial write first, then by thread and index
pub record AreSources (s : ProgramSketch) (read : Event) (sources : List Event) : Type 0 where
  pub is_read : IsRead s read
  pub exact : (source : Event) → Contains sources source ↔ IsSourceOf s.program (mode_in s) s.chosen source read
  pub ordered : AllPairs ComesBefore sources

-- the event is a read that has its value, and no source yet
pub record IsFree (s : ProgramSketch) (read : Event) : Type 0 where
  pub is_read : IsRead s read
  pub free : HasSource s read → ⊥

-- the event is a read that has its value, which no write gives it
pub record LacksSource (s : ProgramSketch) (read : Event) : Type 0 where
  pub is_read : IsRead s read
  pub free : HasSource s read → ⊥
  pub no_source : (source : Event) → IsSourceOf s.program (mode_in s) s.chosen source read → ⊥

-- each list of values that is there is that of its location
abbrev pub AreSomeLists : Listing → List (List ℕ) → Type 0
AreSomeLists p lists = (location : ℕ) (values : List ℕ) → slice_get lists location ≡ Some values → IsValueList p location values

-- what is kept of a sketch without rows
pub record KeepsChoices (p : Listing) (mode : Mode) (thread_traces : List ThreadTrace) (sources pairs : List (Event × Event)) (lists : List (List ℕ)) (tree : TraceTree) : Type 0 where
  pub kept : KeepsTraces p mode thread_traces sources pairs
  pub lists_are : AreSomeLists p lists
  pub tree_is : IsTraceTree p mode (given_in thread_traces) tree
