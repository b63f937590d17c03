pub mod Spelling
pub mod Printable
pub mod Canonical
pub mod Laws
pub mod TextLaws
pub mod Example
-- words of the crates below, passed on
pub use Rattle.cost_text.specs.CostTexts
pub use Rattle.cost_text.specs.GivenCosts
pub use Rattle.litmus_reader.specs.Shown
pub use Rattle.litmus_reader.specs.Texts
pub use Rattle.cost_text.specs.declared.fault.CostTextFault
pub use Rattle.litmus_reader.specs.Names
pub use Rattle.litmus_reader.specs.declared.fault.ReadFault
pub use Rattle.litmus_reader.specs.declared.litmus.Litmus
