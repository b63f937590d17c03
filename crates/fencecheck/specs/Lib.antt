pub mod Inputs
pub mod Verdicts
pub mod Replies
pub mod Laws
pub mod Internal
