-- what many proofs speak of
mod Vocabulary
pub mod Places
pub mod Sets
pub mod OfProgram
pub mod Bounds
pub mod Changes
pub mod NoneLost
pub mod Kept
pub mod Answered
pub mod OneNode
pub mod Steps
pub mod Opening
pub mod Moves
pub mod Working
pub mod WorkLaws
pub mod Refusals
-- words of the crates below, passed on
pub use Rattle.tree_laws.proofs.Lists
pub use Rattle.tree_laws.proofs.OpenGaps
pub use Rattle.tree_laws.proofs.Regions
