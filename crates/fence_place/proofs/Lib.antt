-- what many proofs speak of
mod Vocabulary
pub mod Bounds
pub mod GapTreeValid
pub mod Distinct
pub mod Recording
pub mod RecordPushed
pub mod ShortRuns
pub mod CertificateMade
pub mod PlacementMade
pub mod Settling
pub mod Workers
