-- what many proofs speak of
mod Vocabulary
pub mod Once
pub mod LineLaws
pub mod EntryLaws
pub mod Kept
pub mod CostLaws
pub mod CostFaults
pub mod Gathered
pub mod TextLaws
pub mod Judged
