pub mod PageTexts
