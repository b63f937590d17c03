-- what many proofs speak of
mod Vocabulary
pub mod AsGiven
pub mod CostFileLaws
pub mod Dearest
pub mod Ranges
pub mod SpelledPlaces
pub mod TiesAsEntries
