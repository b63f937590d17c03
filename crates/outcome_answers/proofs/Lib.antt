-- what many proofs speak of
mod Vocabulary
pub mod OutcomeLines
