-- what many proofs speak of
mod Vocabulary
pub mod Rules
pub mod PlaceTexts
pub mod ThreadTexts
pub mod Faultless
