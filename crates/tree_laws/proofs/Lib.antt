-- what many proofs speak of
mod Vocabulary
pub mod Lists
pub mod Filtered
pub mod OneList
pub mod InOrder
pub mod AscendingSearched
-- cover trees
pub mod RuleValues
pub mod CoveredSketches
pub mod ListedOutcomes
pub mod TiesApart
pub mod WiderTraces
pub mod TighterModes
-- gap trees
pub mod AvoidedGaps
pub mod BetterSets
pub mod MovedGaps
pub mod BestOfEach
pub mod OpenGaps
pub mod Regions
pub mod PassedGaps
pub mod CheapestGaps
pub mod DecidedBounds
pub mod BoundedRegions
pub mod NoBetterLeft
-- certificates
pub mod RightClaims
pub mod CertificateIsProof
-- the example
pub mod StoreBufferingValues
pub mod StoreBufferingCovered
pub mod StoreBufferingCycles
pub mod StoreBufferingRuns
pub mod StoreBufferingGaps
pub mod StoreBufferingBounded
pub mod StoreBufferingCertified
pub mod OwnStoreCovered
