pub mod Facts
pub mod ForeignFaults
pub mod Verdicts
