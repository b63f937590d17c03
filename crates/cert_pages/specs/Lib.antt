pub mod NodeWords
pub mod Drafts
pub mod Parts
