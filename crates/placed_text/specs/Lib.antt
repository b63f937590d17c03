pub mod MarkedTables
pub mod PlacedTexts
pub mod Problems
pub mod TextFaults
pub mod Verdicts
pub mod WhyTexts
