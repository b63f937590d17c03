-- what many proofs speak of
mod Vocabulary
pub mod NameLaws
pub mod Rows
pub mod Filled
pub mod NamesOnce
pub mod FirstValues
pub mod Faults
pub mod Fronts
pub mod Elements
pub mod Positions
pub mod Targets
pub mod LabelRows
pub mod Numbered
pub mod Parts
pub mod Whole
pub mod WholeTexts
pub mod Meant
pub mod ExampleLaws
pub mod ShownPlaces
