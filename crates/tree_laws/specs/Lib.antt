pub mod Ascending
pub mod CoverTrees
pub mod Covers
pub mod TighterModes
pub mod Packings
pub mod GapTrees
pub mod Certificates
pub mod Laws
pub mod StoreBuffering
pub mod OwnStore
-- words of the crates below, passed on
pub use Rattle.cert_forest.specs.Rule
