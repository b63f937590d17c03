-- What contracts of private functions and proofs cite; no public contract does.
pub mod Labels
pub mod Orders
pub mod Steps
