-- Sketches and their completions.
pub mod MoreValues
pub mod GivenValues
pub mod KnownEdges
pub mod KnownCycles
pub mod Choices
pub mod WritesAhead
pub mod SettledSources
pub mod MustEnd
