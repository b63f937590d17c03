pub mod HeldRows
pub mod HeldLists
