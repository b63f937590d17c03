-- Accesses, as trees name them.
use Rattle.std.specs.Prelude.{◌≡◌, ℕ, List, Some, IfSome, All, Contains}
use Rattle.candidate_executions.specs.declared.access.Access.{Access}
use Rattle.candidate_executions.specs.declared.event.Event.{Event, TheVariants.Initial, TheVariants.Access as At}
use Rattle.candidate_executions.specs.Candidates.{Writes}
use Rattle.candidate_executions.specs.Sketches.{IsWhole}
use Rattle.program_sketches.specs.ProgramSketches.{ProgramSketch, mode_in, access_in}
use Rattle.program_sketches.specs.Choices.{IsRead}
use Rattle.cert_trees.specs.declared.tree.AccessId.{AccessId}
use Rattle.tree_laws.specs.CoverTrees.{event_of}
use Rattle.cover_search.specs.declared.accesses.ReadValue.{ReadValue}
use Rattle.cover_search.specs.declared.accesses.WrittenValue.{WrittenValue}
use Rattle.cover_search.specs.declared.accesses.WholeAccesses.{WholeAccesses}

-- no initial write
abbrev pub IsThreadEvent : Event → Type 0
IsThreadEvent (Initial l) = ⊥
IsThreadEvent (At t i) = Unit {0}

-- the access reads the value from the location
pub record IsReadValue (s : ProgramSketch) (r : ReadValue) : Type 0 where
  pub access : Access
  pub is_access : access_in s (event_of r.read) ≡ Some access
  pub location : access.location ≡ r.location
  pub reads : access.read ≡ Some r.value

-- one of these is of the access
abbrev pub NamesRead : List ReadValue → AccessId → Type 0
NamesRead reads a = (r : ReadValue) × Contains reads r × (r.read ≡ a)

-- these are the accesses of the sketch that read
pub record AreReads (s : ProgramSketch) (reads : List ReadValue) : Type 0 where
  pub each : All (IsReadValue s) reads
  pub all : (a : AccessId) → IsRead s (event_of a) → NamesRead reads a

-- the access writes the value to the location
abbrev pub IsWrittenValue : ProgramSketch → WrittenValue → Type 0
IsWrittenValue s w = Writes (access_in s) (event_of w.write) w.location w.value

-- the access writes something
abbrev pub IsWrite : ProgramSketch → AccessId → Type 0
IsWrite s a = (l : ℕ) × (v : ℕ) × Writes (access_in s) (event_of a) l v

-- one of these is of the access
abbrev pub NamesWrite : List WrittenValue → AccessId → Type 0
NamesWrite writes a = (w : WrittenValue) × Contains writes w × (w.write ≡ a)

-- these are the accesses of the sketch that write
pub record AreWrites (s : ProgramSketch) (writes : List WrittenValue) : Type 0 where
  pub each : All (IsWrittenValue s) writes
  pub all : (a : AccessId) → IsWrite s a → NamesWrite writes a

-- each read of the sketch has its value, these are its reads and its writes, and one of the reads stands apart
pub record AreAccessesOf (s : ProgramSketch) (accesses : WholeAccesses) : Type 0 where
  pub whole : IsWhole s.program (mode_in s) s.chosen
  pub reads : AreReads s accesses.reads.items
  pub writes : AreWrites s accesses.writes.items
  pub unsourced : IfSome accesses.unsourced (IsReadValue s)

-- the access itself, and each access of its thread
abbrev pub IsItself : AccessId → AccessId → Type 0
IsItself a b = b ≡ a

abbrev pub IsOfItsThread : ℕ → AccessId → Type 0
IsOfItsThread t a = a.thread ≡ t

-- nothing but what the sketch reads and writes is put in, none is taken away, and these accesses are in as far as they read and write
pub record TakesIn (s : ProgramSketch) (T : AccessId → Type 0) (old new : WholeAccesses) : Type 0 where
  pub reads : All (IsReadValue s) old.reads.items → All (IsReadValue s) new.reads.items
  pub writes : All (IsWrittenValue s) old.writes.items → All (IsWrittenValue s) new.writes.items
  pub kept_reads : (a : AccessId) → NamesRead old.reads.items a → NamesRead new.reads.items a
  pub kept_writes : (a : AccessId) → NamesWrite old.writes.items a → NamesWrite new.writes.items a
  pub read : (a : AccessId) → T a → IsRead s (event_of a) → NamesRead new.reads.items a
  pub written : (a : AccessId) → T a → IsWrite s a → NamesWrite new.writes.items a
