pub mod Lines
pub mod Surveys
pub mod Placements
pub mod Whys
pub mod GapTexts
pub mod Answers
