-- what many proofs speak of
mod Vocabulary
pub mod Fresh
pub mod Refusals
pub mod Parents
pub mod Found
pub mod Marks
pub mod CloseFaults
pub mod Moves
pub mod Walks
pub mod Crossing
