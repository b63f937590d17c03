pub mod CostFiles
pub mod Lists
pub mod Lines
pub mod Notes
pub mod TiedFiles
