pub mod Bits
pub mod ThreadsRead
pub mod RowsSpread
pub mod RowsHeld
pub mod PassesMade
pub mod ListsHeld
