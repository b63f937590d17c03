-- what many proofs speak of
mod Vocabulary
pub mod Link
pub mod Effects
pub mod Runs
pub mod Stepped
pub mod Refused
pub mod OneFault
pub mod Avoided
pub mod Unfenced
pub mod RunLabels
pub mod RunsRead
pub mod ExamplesTold
-- functions changed at a place, and the steps of the machine by cases
pub mod ChangedAt
pub mod StepCases
-- how long a run is
pub mod RunsAreShort
-- held values
pub mod ThreadsHold
-- sequential runs and store buffers
pub mod SequentialIsBuffered
pub mod WaitingEverywhere
pub mod PassedPlaces
pub mod NamesPassed
pub mod NothingPassed
pub mod UnfencedRuns
pub mod GapsAvoided
pub mod AllGapsFenced
-- fenced programs
pub mod FencedActions
pub mod EitherMachine
pub mod FencedSteps
pub mod FencesInserted
pub mod FencesDropped
pub mod FencingIsTheMachine
-- the answer
pub mod OneAnswer
pub mod TrueNames
pub mod BestAllowed
pub mod HeadlineIsTheAnswer
pub mod PartsServed
