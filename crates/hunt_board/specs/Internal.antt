-- What contracts of private functions and proofs cite; no public contract does.
pub mod Confirmed
pub mod Events
pub mod Marks
pub mod Places
pub mod Settled
