pub mod Rows
pub mod ThreadOrder
pub mod Rounds
