pub mod Word
pub mod Cells
pub mod Seats
pub mod Settlings
pub mod Receipts
pub mod Internal
