-- what many proofs speak of
mod Vocabulary
pub mod FencedRuns
pub mod PlacesFenced
pub mod SoughtRuns
