-- Which choices a sketch takes, and why it refuses the others.
use Rattle.std.specs.Prelude.{◌≡◌, ◌⊎◌, ℕ, Some, IsSome, Contains}
use Rattle.candidate_executions.specs.declared.access.Access.{Access}
use Rattle.candidate_executions.specs.declared.event.Event.{Event}
use Rattle.candidate_executions.specs.Sketches.{IsSourceOf, IsPair, IsWhole}
use Rattle.program_sketches.specs.declared.fault.SketchFault.{SketchFault, TheVariants.NotWhole, TheVariants.AlreadyChosen, TheVariants.NotSameLocation, TheVariants.NotASource, TheVariants.OutOfMemory}
use Rattle.program_sketches.specs.ProgramSketches.{ProgramSketch, mode_in, access_in}

-- the event is a read
abbrev pub IsRead : ProgramSketch → Event → Type 0
IsRead s e = (x : Access) × (access_in s e ≡ Some x) × IsSome x.read

-- the event reads this value from the location
abbrev pub ReadsThisValue : ProgramSketch → Event → ℕ → ℕ → Type 0
ReadsThisValue s e l v = (x : Access) × (access_in s e ≡ Some x) × (x.read ≡ Some v) × (x.location ≡ l)

-- the event writes this value
abbrev pub IsValueWritten : ProgramSketch → ℕ → Event → Type 0
IsValueWritten s v e = (x : Access) × (access_in s e ≡ Some x) × (x.written ≡ Some v)

-- the read has a source
abbrev pub HasSource : ProgramSketch → Event → Type 0
HasSource s read = (source : Event) × Contains s.chosen.sources (read, source)

-- the two writes are in order, one way or the other
abbrev pub IsOrdered : ProgramSketch → Event → Event → Type 0
IsOrdered s d e = Contains s.chosen.pairs (d, e) ⊎ Contains s.chosen.pairs (e, d)

-- the read can take the source: it is one of its sources, and the read has none yet
pub record CanRead (s : ProgramSketch) (read source : Event) : Type 0 where
  pub is_source : IsSourceOf s.program (mode_in s) s.chosen source read
  pub free : HasSource s read → ⊥

-- the first can come before the second: they are two writes to one location, in no order yet
pub record CanFollow (s : ProgramSketch) (d e : Event) : Type 0 where
  pub is_pair : IsPair s.program (mode_in s) s.chosen d e
  pub free : IsOrdered s d e → ⊥

-- where values come first, a source may be chosen: each read has its value, it is one of the read's sources, and the read has none yet
pub record MayRead (s : ProgramSketch) (read source : Event) : Type 0 where
  pub whole : IsWhole s.program (mode_in s) s.chosen
  pub is_source : IsSourceOf s.program (mode_in s) s.chosen source read
  pub free : HasSource s read → ⊥

-- where values come first, an order may be chosen: each read has its value, they are two writes to one location, and they are in no order yet
pub record MayFollow (s : ProgramSketch) (d e : Event) : Type 0 where
  pub whole : IsWhole s.program (mode_in s) s.chosen
  pub is_pair : IsPair s.program (mode_in s) s.chosen d e
  pub free : IsOrdered s d e → ⊥

-- why the sources of a read are not listed
abbrev pub SourcesFaultIs : ProgramSketch → Event → SketchFault → Type 0
SourcesFaultIs s read NotWhole = IsWhole s.program (mode_in s) s.chosen → ⊥
SourcesFaultIs s read AlreadyChosen = ⊥
SourcesFaultIs s read NotSameLocation = ⊥
SourcesFaultIs s read NotASource = IsWhole s.program (mode_in s) s.chosen × (IsRead s read → ⊥)
SourcesFaultIs s read OutOfMemory = IsWhole s.program (mode_in s) s.chosen × IsRead s read

-- why a source is refused; whether it is one is tried before whether the read has one
abbrev pub SourceFaultIs : ProgramSketch → Event → Event → SketchFault → Type 0
SourceFaultIs s read source NotWhole = IsWhole s.program (mode_in s) s.chosen → ⊥
SourceFaultIs s read source AlreadyChosen = IsWhole s.program (mode_in s) s.chosen × IsSourceOf s.program (mode_in s) s.chosen source read × HasSource s read
SourceFaultIs s read source NotSameLocation = ⊥
SourceFaultIs s read source NotASource = IsWhole s.program (mode_in s) s.chosen × (IsSourceOf s.program (mode_in s) s.chosen source read → ⊥)
SourceFaultIs s read source OutOfMemory = MayRead s read source

-- why an order is refused; whether they are two writes to one location is tried before whether they are in order
abbrev pub OrderFaultIs : ProgramSketch → Event → Event → SketchFault → Type 0
OrderFaultIs s d e NotWhole = IsWhole s.program (mode_in s) s.chosen → ⊥
OrderFaultIs s d e AlreadyChosen = IsWhole s.program (mode_in s) s.chosen × IsPair s.program (mode_in s) s.chosen d e × IsOrdered s d e
OrderFaultIs s d e NotSameLocation = IsWhole s.program (mode_in s) s.chosen × (IsPair s.program (mode_in s) s.chosen d e → ⊥)
OrderFaultIs s d e NotASource = ⊥
OrderFaultIs s d e OutOfMemory = MayFollow s d e
