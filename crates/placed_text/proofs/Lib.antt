-- what many proofs speak of
mod Vocabulary
pub mod Elements
pub mod GapsThere
pub mod Judged
pub mod Needed
pub mod PassingSteps
pub mod ReasonTexts
pub mod SequentialRuns
pub mod Decided
