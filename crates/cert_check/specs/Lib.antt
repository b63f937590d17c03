pub mod GapDefects
pub mod Headlines
pub mod Faults
pub mod Laws
pub mod Internal
-- words of the crates below, passed on
pub use Rattle.tree_laws.specs.Certificates
