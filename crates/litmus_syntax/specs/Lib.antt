pub mod Words
pub mod Views
pub mod Phrases
pub mod Grammar
pub mod Places
pub mod Reading
pub mod Exact
