pub mod Names
pub mod Places
pub mod Labels
pub mod Meaning
pub mod Faults
pub mod Fronts
pub mod Texts
pub mod Shown
pub mod Laws
pub mod Example
pub mod Internal
-- words of the crates below, passed on
pub use Rattle.text_tokens.specs.Pieces
