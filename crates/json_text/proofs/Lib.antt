-- what many proofs speak of
mod Vocabulary
pub mod Cuts
pub mod Lists
pub mod SafeTexts
pub mod Values
