-- Accesses by number, and what is kept of them in rows.
use Rattle.std.specs.Prelude.{◌≡◌, ◌≢◌, ◌↔◌, ◌⊎◌, ◌+◌, ◌<◌, ◌≤◌, ℕ, Bool, IsTrue, List, Some, IsSome, slice_get, slice_index, length, Contains}
use Rattle.std.specs.List.{AllPairs}
use Rattle.bit_rows.specs.Rows.{IsIn, RowHas}
use Rattle.tso_program.specs.declared.listing.Listing.{Listing}
use Rattle.candidate_executions.specs.declared.access.Access.{Access}
use Rattle.candidate_executions.specs.declared.event.Event.{Event, TheVariants.Initial, TheVariants.Access as At}
use Rattle.candidate_executions.specs.declared.event.Kind.{Kind}
use Rattle.candidate_executions.specs.declared.event.Kind.TheVariants as union
use Rattle.candidate_executions.specs.Events.{ComesBefore}
use Rattle.tso_machine.specs.declared.mode.Mode.{Mode, TheVariants.Sequential, TheVariants.Fenced}
use Rattle.thread_traces.specs.declared.thread_trace.ThreadTrace.{ThreadTrace}
use Rattle.known_edges.specs.declared.edge_rows.SourceRows.{SourceRows}
use Rattle.known_edges.specs.declared.edge_rows.OrderRows.{OrderRows}
use Rattle.program_sketches.specs.ProgramSketches.{ProgramSketch, mode_in}
use Rattle.program_sketches.specs.Known.{OrderPart}
use Rattle.program_sketches.specs.Kept.{view_of, KeepsTraces, HasValuesFirst}
use Rattle.program_sketches.specs.TracedAccesses.{traced_access, IsOfThreads, EachEnds}
use Rattle.bit_rows.specs.declared.row.TheConstants.{ROW_BITS}
use Rattle.tso_program.specs.declared.limits.TheConstants.{MAX_LOCATIONS}
use Rattle.candidate_executions.specs.Sketches.{KnownEdgeOfMode, IsWhole}

-- one of thread t's first n accesses
abbrev pub IsEarly : ℕ → ℕ → Event → Type 0
IsEarly t n (Initial l) = ⊥
IsEarly t n (At u i) = (u ≡ t) × (i < n)

-- all accesses, by thread and index
pub record AreAccesses (thread_traces : List ThreadTrace) (events : List Event) : Type 0 where
  pub exact : (e : Event) → Contains events e ↔ IsOfThreads thread_traces e
  pub ordered : AllPairs ComesBefore events

-- the row has the numbers of those events of which P holds
abbrev pub IsRowOf : List Event → (Event → Type 0) → ℕ → Type 0
IsRowOf events P row = (d : ℕ) → IsIn row d ↔ ((x : Event) × (slice_get events d ≡ Some x) × P x)

-- the rows have the numbers of those pairs of events of which R holds
abbrev pub AreRowsOf : List Event → (Event → Event → Type 0) → List ℕ → Type 0
AreRowsOf events R rows =
    (d e : ℕ) → RowHas rows d e ↔ ((x : Event) × (y : Event) × (slice_get events d ≡ Some x) × (slice_get events e ≡ Some y) × R x y)

-- the union has program order from d to e
abbrev pub InOrder : List ThreadTrace → Kind → Event → Event → Type 0
InOrder thread_traces kind d e =
    (x : Access) × (y : Access) × (traced_access thread_traces d ≡ Some x) × (traced_access thread_traces e ≡ Some y) × OrderPart kind d x e y

-- the locations of the accesses are among those that a program has
abbrev pub HaveLocations : List ThreadTrace → Type 0
HaveLocations thread_traces = (e : Event) (x : Access) → traced_access thread_traces e ≡ Some x → x.location < MAX_LOCATIONS

-- an access that writes the location
abbrev pub IsWriteAt : List ThreadTrace → ℕ → Event → Type 0
IsWriteAt thread_traces l e = (y : Access) × (traced_access thread_traces e ≡ Some y) × (y.location ≡ l) × IsSome y.written

-- the rows have for each location the accesses that write it
abbrev pub AreWriteRows : List ThreadTrace → List Event → List ℕ → Type 0
AreWriteRows thread_traces events rows = (l : ℕ) → IsRowOf events (IsWriteAt thread_traces l) (slice_index rows l)

-- the row has each access that writes a location
abbrev pub HasWrites : List ThreadTrace → List Event → ℕ → Type 0
HasWrites thread_traces events row = (l d : ℕ) (x : Event) → slice_get events d ≡ Some x → IsWriteAt thread_traces l x → IsIn row d

-- the event is chosen as the source of another than this one
abbrev pub ReadsBut : List (Event × Event) → Event → Event → Event → Type 0
ReadsBut sources source except read = Contains sources (read, source) × (read ≢ except)

-- what stands in the rows of one event is one
abbrev pub IsAlike : List Event → List ℕ → Type 0
IsAlike events rows = (j k d : ℕ) → slice_get events j ≡ slice_get events k → RowHas rows j d → RowHas rows k d

-- d is in the row of the event
abbrev pub IsAfter : List Event → List ℕ → Event → ℕ → Type 0
IsAfter events rows event d = (k : ℕ) × (slice_get events k ≡ Some event) × RowHas rows k d

-- the union that a mode has alone, or beside the global one
abbrev pub main_kind : Mode → Kind
main_kind Sequential = union.Sequential
main_kind (Fenced gaps) = union.Location

-- the rows of a union
abbrev pub union_rows : Kind → List ℕ → List ℕ → List ℕ
union_rows union.Global main global = global
union_rows _ main global = main

-- what the threads do, and the accesses that have numbers, their places
pub record NumberedTraces : Type 0 where
  pub thread_traces : List ThreadTrace
  pub events : List Event

-- the traces are those of some sketch
abbrev pub AreOfSketch : List ThreadTrace → Type 0
AreOfSketch thread_traces = (p : Listing) × (mode : Mode) × (sources : List (Event × Event)) × (pairs : List (Event × Event)) × KeepsTraces p mode thread_traces sources pairs

-- accesses that come by thread and index are few enough for a row
abbrev pub FitRow : List ThreadTrace → Type 0
FitRow thread_traces = (events : List Event) → AllPairs ComesBefore events → ((e : Event) → Contains events e → IsOfThreads thread_traces e) → length events ≤ ROW_BITS

-- the accesses that have numbers: all of them where each thread has come to its end, and all or none
pub record AreNumbered (thread_traces : List ThreadTrace) (events : List Event) : Type 0 where
  pub all : EachEnds thread_traces → AreAccesses thread_traces events
  pub not_some : (e : Event) → Contains events e → AreAccesses thread_traces events
  pub of_threads : (e : Event) → Contains events e → IsOfThreads thread_traces e
  pub ordered : AllPairs ComesBefore events
  pub few : length events ≤ ROW_BITS

-- the number of an access is the start of its thread and its index
abbrev pub AreStarts : List Event → List ℕ → Type 0
AreStarts events starts = (d t i : ℕ) → slice_get events d ≡ Some (At t i) → (start : ℕ) × (slice_get starts t ≡ Some start) × (start + i ≡ d)

-- the accesses of a thread are as many as its count
abbrev pub AreCounts : List Event → List ℕ → Type 0
AreCounts events counts = (t i : ℕ) → Contains events (At t i) ↔ ((count : ℕ) × (slice_get counts t ≡ Some count) × (i < count))

-- the new events are the old ones, and the accesses of thread t at the next places
abbrev pub AreBeyond : List Event → ℕ → List Event → Type 0
AreBeyond old t new = (d u i : ℕ) → slice_get new d ≡ Some (At u i) → (slice_get old d ≡ Some (At u i)) ⊎ ((u ≡ t) × (length old + i ≡ d))

-- what is kept beside the traces: whether each thread has come to its end, the accesses that have numbers, the starts of the threads, how many accesses they have, and the writes to each location
pub record KeepsTraceNumbers (thread_traces : List ThreadTrace) (events : List Event) (whole : Bool) (starts counts written : List ℕ) : Type 0 where
  pub numbered : AreNumbered thread_traces events
  pub ends : IsTrue whole ↔ EachEnds thread_traces
  pub starts_are : AreStarts events starts
  pub counts_are : AreCounts events counts
  pub written_are : AreWriteRows thread_traces events written

-- the rows have the program order of the mode's unions between the accesses that have numbers
pub record HasOrder (mode : Mode) (thread_traces : List ThreadTrace) (events : List Event) (main global : List ℕ) : Type 0 where
  pub numbered : AreNumbered thread_traces events
  pub main_rows : AreRowsOf events (InOrder thread_traces (main_kind mode)) main
  pub global_rows : AreRowsOf events (λ d e. (mode ≡ Sequential → ⊥) × InOrder thread_traces union.Global d e) global

-- the rows have the chosen pairs and the known edges of the mode's unions between the accesses that have numbers: all of them once each read has its value
pub record HasRows (s : ProgramSketch) (thread_traces : List ThreadTrace) (events : List Event) (later main global : List ℕ) : Type 0 where
  pub all : IsWhole s.program (mode_in s) s.chosen → AreAccesses thread_traces events
  pub of_threads : (e : Event) → Contains events e → IsOfThreads thread_traces e
  pub few : length events ≤ ROW_BITS
  pub later_rows : AreRowsOf events (λ d e. Contains s.chosen.pairs (d, e)) later
  pub main_rows : AreRowsOf events (KnownEdgeOfMode s.program (mode_in s) s.chosen (main_kind s.mode)) main
  pub global_rows : AreRowsOf events (KnownEdgeOfMode s.program (mode_in s) s.chosen union.Global) global

-- what the code keeps of a sketch
pub record IsRepresented (p : Listing) (mode : Mode) (thread_traces : List ThreadTrace) (events : List Event) (sources pairs : List (Event × Event)) (later main global : List ℕ) : Type 0 where
  pub kept : KeepsTraces p mode thread_traces sources pairs
  pub values_first : HasValuesFirst (view_of p mode thread_traces sources pairs)
  pub rows : HasRows (view_of p mode thread_traces sources pairs) thread_traces events later main global

-- the rows of a read's source: those of the read and of the source, and the writes after the source but for the read
pub record AreSourceRows (thread_traces : List ThreadTrace) (events : List Event) (later : List ℕ) (read source : Event) (rows : SourceRows) : Type 0 where
  pub reader : IsRowOf events (λ e. e ≡ read) rows.reader
  pub written : IsRowOf events (λ e. e ≡ source) rows.written
  pub initial : (l : ℕ) → source ≡ Initial l → (d : ℕ) → IsIn rows.after d ↔ (((x : Event) × (slice_get events d ≡ Some x) × IsWriteAt thread_traces l x) × (IsIn rows.reader d → ⊥))
  pub after : (t i : ℕ) → source ≡ At t i → (d : ℕ) → IsIn rows.after d ↔ (IsAfter events later source d × (IsIn rows.reader d → ⊥))

-- the rows of an order: those of the two writes, of the reads that have the first as their source, and of these and the first
pub record AreOrderRows (events : List Event) (sources : List (Event × Event)) (first second : Event) (rows : OrderRows) : Type 0 where
  pub before : IsRowOf events (λ e. e ≡ first) rows.before
  pub after : IsRowOf events (λ e. e ≡ second) rows.after
  pub readers : IsRowOf events (ReadsBut sources first second) rows.readers
  pub earlier : (k : ℕ) → IsIn rows.earlier k ↔ (IsIn rows.before k ⊎ IsIn rows.readers k)
