-- what many proofs speak of
mod Vocabulary
