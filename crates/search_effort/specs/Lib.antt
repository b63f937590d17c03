pub mod Extents
-- words of the crates below, passed on
pub use Rattle.cover_solver.specs.OutcomeLists
