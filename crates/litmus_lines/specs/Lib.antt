pub mod FirstLine
pub mod SkippedLines
pub mod Faults
pub mod Internal
