-- what many proofs speak of
mod Vocabulary
pub mod Cycles
pub mod NumberWalks
pub mod Accesses
pub mod Found
pub mod Unchosen
pub mod Masks
pub mod InThreadOrder
pub mod OrderJoins
pub mod Connected
pub mod Numbered
pub mod ThreadRows
pub mod Starts
pub mod Located
pub mod Written
pub mod RowsKept
pub mod Rounds
