pub mod Gaps
pub mod Labels
pub mod Outcomes
pub mod Sayings
