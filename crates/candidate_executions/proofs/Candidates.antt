-- What candidates and their edges are like.
pub mod WrittenValues
pub mod AllEvents
pub mod EdgesAreDecidable
pub mod NothingIntoInitial
pub mod LastWrites
pub mod StoreBufferingIsWeak
