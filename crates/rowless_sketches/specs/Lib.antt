pub mod Completions
pub mod Endings
pub mod Knowledge
pub mod RowlessSketches
pub mod Internal
-- words of the crates below, passed on
pub use Rattle.program_sketches.specs.Choices
pub use Rattle.program_sketches.specs.ProgramSketches
