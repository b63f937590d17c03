-- what many proofs speak of
mod Vocabulary
pub mod Options
pub mod ItemLaws
pub mod WordLaws
pub mod PlaceLaws
pub mod Repetitions
pub mod SeenLaws
pub mod EntryLaws
pub mod HeaderLaws
pub mod CodeLaws
pub mod CellLaws
pub mod LabelLaws
pub mod RowLaws
pub mod BodyLaws
pub mod ObservedLaws
pub mod SignLaws
pub mod EndingLaws
