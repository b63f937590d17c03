-- what many proofs speak of
mod Vocabulary
pub mod Spelled
pub mod NodeLaws
pub mod GapNodeLaws
pub mod WalkSteps
pub mod ShorterWalks
pub mod NextNodes
