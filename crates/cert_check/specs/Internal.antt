-- What contracts of private functions and proofs cite; no public contract does.
pub mod Children
pub mod Claims
pub mod Packed
pub mod Replays
