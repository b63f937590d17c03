-- what many proofs speak of
mod Vocabulary
pub mod Writing
pub mod WrittenNodes
pub mod PartLaws
