-- what many proofs speak of
mod Vocabulary
pub mod Joined
pub mod Usage
pub mod Certified
