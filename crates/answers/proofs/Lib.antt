-- what many proofs speak of
mod Vocabulary
pub mod ToldAnswers
pub mod Delivered
pub mod PrintedRefusals
