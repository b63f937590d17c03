pub mod CostLines
pub mod CostTexts
pub mod GivenCosts
pub mod Internal
