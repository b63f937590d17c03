-- What it says of a sketch that nothing is left to be chosen.
use Rattle.std.specs.Prelude.{ℕ, ◌<◌, List, Contains, length, slice_index_or}
use Rattle.std.specs.List.{AllPairs}
use Rattle.program_sketches.specs.ProgramSketches.{ProgramSketch}
use Rattle.exec_axioms.specs.Complete.{HasItsSource, IsOrderedWith}
use Rattle.tree_laws.specs.CoverTrees.{event_of}
use Rattle.cover_search.specs.declared.accesses.ReadValue.{ReadValue}
use Rattle.cover_search.specs.declared.accesses.WrittenValue.{WrittenValue}

-- each of the reads has its source
abbrev pub HasEachSource : ProgramSketch → List ReadValue → Type 0
HasEachSource s reads = (r : ReadValue) → Contains reads r → HasItsSource s (event_of r.read)

-- the two are in order, if both write to one location
abbrev pub AreWritesInOrder : ProgramSketch → WrittenValue → WrittenValue → Type 0
AreWritesInOrder s a b = IsOrderedWith s (event_of a.write) (event_of b.write)

-- the write at this place is in order with each later one
abbrev pub IsInOrderWithLater : ProgramSketch → List WrittenValue → ℕ → Type 0
IsInOrderWithLater s writes i = (j : ℕ) (d : WrittenValue) → i < j → j < length writes → AreWritesInOrder s (slice_index_or writes i d) (slice_index_or writes j d)

-- each of the writes is so with each later one
abbrev pub IsEachInOrder : ProgramSketch → List WrittenValue → Type 0
IsEachInOrder s writes = AllPairs (AreWritesInOrder s) writes
