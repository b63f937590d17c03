pub mod Accesses
pub mod OpenChoices
pub mod ChoicesLeft
pub mod Covers
pub mod Pushing
pub mod ShownRuns
pub mod Stops
