-- what many proofs speak of
mod Vocabulary
pub mod Steps
pub mod Following
pub mod RunParts
pub mod Arrivals
pub mod Ending
pub mod LocalFirst
pub mod Explored
pub mod EachFound
pub mod Answering
pub mod Told
