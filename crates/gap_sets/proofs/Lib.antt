-- what many proofs speak of
mod Vocabulary
pub mod Allowed
pub mod CostLimits
pub mod Counted
pub mod Differences
pub mod Examples
pub mod LeastNames
pub mod Listed
pub mod Names
pub mod Naming
pub mod Orders
pub mod Ranges
pub mod SpreadTotals
pub mod Spreading
pub mod Subsets
pub mod Tests
pub mod TiedExample
pub mod Totals
pub mod WordSets
pub mod Words
