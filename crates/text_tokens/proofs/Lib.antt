-- what many proofs speak of
mod Vocabulary
pub mod Prefixes
pub mod NumberLaws
pub mod CommentLaws
pub mod SpaceLaws
pub mod StepLaws
pub mod FirstBytes
pub mod Fronts
pub mod OneReading
pub mod PartLaws
pub mod PieceLaws
