pub mod Verdicts
pub mod Visits
pub mod ExecutedRuns
pub mod Internal
pub mod Surveys
