-- what many proofs speak of
mod Vocabulary
pub mod Visited
pub mod Executed
pub mod Passing
pub mod Claimed
