-- what many proofs speak of
mod Vocabulary
pub mod TraceSteps
pub mod TracesKept
pub mod KnownParts
pub mod Walks
pub mod Accesses
pub mod Gathered
pub mod KnownValues
pub mod AccessesCounted
pub mod EventsCounted
pub mod ValuesGiven
pub mod TraceTrees
pub mod CountedProducts
