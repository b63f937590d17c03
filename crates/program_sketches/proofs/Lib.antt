-- what many proofs speak of
mod Vocabulary
pub mod Lookups
pub mod GivenUsed
pub mod Lawful
pub mod TracesKept
pub mod Traced
pub mod Chosen
pub mod KnownParts
pub mod ChoicesCounted
pub mod BranchesCounted
