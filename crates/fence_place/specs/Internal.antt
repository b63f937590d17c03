-- What contracts of private functions and proofs cite; no public contract does.
pub mod Recording
pub mod Searches
pub mod Sharing
pub mod Workers
