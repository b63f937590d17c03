-- what many proofs speak of
mod Vocabulary
pub mod AccessesNamed
pub mod AfterChoices
pub mod OneMoreChoice
pub mod Rounds
pub mod TakenIn
pub mod NothingLeft
pub mod Nodes
pub mod Covering
pub mod Neat
pub mod Leaves
