pub mod LiveRows
pub mod DeadPlaces
