-- Marks of sketches: what a mark keeps, and which sketches come after it.
use Rattle.std.specs.Prelude.{◌≡◌, ◌++◌, ℕ, List, length}
use Rattle.candidate_executions.specs.declared.event.Event.{Event}
use Rattle.program_sketches.specs.ProgramSketches.{ProgramSketch}
use Rattle.program_sketches.specs.Kept.{view_of}
use Rattle.known_edges.specs.Rows.{NumberedTraces, IsRepresented}

-- what is kept of a sketch: what its threads do, how many sources and orders it has chosen, and the rows of its edges
pub record MarkedSketch : Type 0 where
  pub traces : NumberedTraces
  pub sources : ℕ
  pub pairs : ℕ
  pub later : List ℕ
  pub main : List ℕ
  pub global : List ℕ

-- the mark is of the sketch
pub record IsMarkOf (mark : MarkedSketch) (s : ProgramSketch) : Type 0 where
  pub seen : s ≡ view_of s.program s.mode mark.traces.thread_traces s.chosen.sources s.chosen.pairs
  pub sources_are : mark.sources ≡ length s.chosen.sources
  pub pairs_are : mark.pairs ≡ length s.chosen.pairs
  pub represented : IsRepresented s.program s.mode mark.traces.thread_traces mark.traces.events s.chosen.sources s.chosen.pairs mark.later mark.main mark.global

-- the later list begins with the earlier one
abbrev pub Continues : List (Event × Event) → List (Event × Event) → Type 0
Continues earlier later = (more : List (Event × Event)) × (later ≡ earlier ++ more)

-- the later sketch is the earlier one with more choices
pub record ComesAfter (earlier later : ProgramSketch) : Type 0 where
  pub program : later.program ≡ earlier.program
  pub mode : later.mode ≡ earlier.mode
  pub sources : Continues earlier.chosen.sources later.chosen.sources
  pub pairs : Continues earlier.chosen.pairs later.chosen.pairs
