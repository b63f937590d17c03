-- From a consistent candidate to a run, which follows an order of its events.
pub mod Linear
pub mod StepsCounted
pub mod Standing
pub mod ReadsTheRightValue
pub mod StandingOn
pub mod EventsAreReached
pub mod RunsAreFinished
pub mod CandidatesHaveRuns
pub mod SequentialOrders
pub mod MarksOfOrders
pub mod CandidatesAreRuns
