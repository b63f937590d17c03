pub mod Outcomes
pub mod Witnesses
