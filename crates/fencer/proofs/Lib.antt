-- what many proofs speak of
mod Vocabulary
pub mod Served
pub mod Surveyed
pub mod WrittenSurveys
