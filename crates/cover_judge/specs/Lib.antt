pub mod Choices
pub mod ChoiceLists
pub mod ChoiceMarks
pub mod CoverDefects
pub mod Judged
pub mod RuleValues
-- words of the crates below, passed on
pub use Rattle.candidate_executions.specs.Sketches
pub use Rattle.rowless_sketches.specs.ProgramSketches
