-- what many proofs speak of
mod Vocabulary
pub mod Steps
pub mod WordLaws
pub mod CompletionLaws
