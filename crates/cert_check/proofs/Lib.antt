-- what many proofs speak of
mod Vocabulary
-- gap trees
pub mod OpenGaps
pub mod PackedGaps
pub mod PackedRuns
pub mod GapNodes
pub mod GapSteps
-- runs
pub mod Found
pub mod OutcomesListed
pub mod Replayed
-- certificates
pub mod TiesApart
pub mod SetAndCost
pub mod AllowedSets
pub mod FirstFaults
pub mod OneFault
pub mod JudgedFaults
pub mod Assembled
-- words of the crates below, passed on
pub use Rattle.cover_judge.proofs.Answered
pub use Rattle.tree_laws.proofs.RightClaims
