pub mod ThreadTraces
pub mod ThreadOrder
pub mod WriteBits
pub mod Immediates
pub mod ValueLists
pub mod TraceCounts
pub mod TraceTrees
