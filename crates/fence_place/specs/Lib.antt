pub mod Recorded
pub mod Proofs
pub mod Placements
pub mod Faults
pub mod Internal
