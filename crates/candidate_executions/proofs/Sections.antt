-- What lies between two accesses of a thread.
pub mod SectionsRise
pub mod SectionsOfSteps
pub mod SectionsTellFences
pub mod KeptOrder
