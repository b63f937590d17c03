pub mod Documents
pub mod FencedModels
pub mod Notes
pub mod Witnesses
pub mod Parts
pub mod Runs
pub mod Surveys
