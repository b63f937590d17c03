-- What contracts of private functions and proofs cite; no public contract does.
pub mod LineReading
pub mod TextReading
