-- what many proofs speak of
mod Vocabulary
pub mod FirstLineLaws
pub mod SkippedLaws
pub mod FaultLaws
