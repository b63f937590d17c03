pub mod Trees
pub mod Spelling
pub mod Nodes
pub mod GapNodes
pub mod CoverCodes
pub mod GapCodes
pub mod Walks
pub mod Laws
pub mod Internal
-- words of the crates below, passed on
pub use Rattle.candidate_executions.specs.declared.event.Kind
