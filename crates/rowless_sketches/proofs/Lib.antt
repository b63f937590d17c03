-- what many proofs speak of
mod Vocabulary
pub mod ChoicesDropped
pub mod Ends
pub mod Known
pub mod MemoryEnds
pub mod OwnWrites
pub mod SettledReads
pub mod SourceLists
pub mod ValuesGiven
-- words of the crates below, passed on
pub use Rattle.program_sketches.proofs.Lawful
pub use Rattle.program_sketches.proofs.Lookups
