pub mod Inserted
pub mod Internal
