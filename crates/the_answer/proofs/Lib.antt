-- what many proofs speak of
mod Vocabulary
-- elements of lists
pub mod Lists
-- the outcomes, listed
pub mod StepsOfThreads
pub mod RunsListed
-- which sets serve
pub mod Served
-- the best set, and the answer
pub mod Best
pub mod AnswerExists
-- the answer computes
pub mod Computed
pub mod ExamplesComputed
