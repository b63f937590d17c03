pub mod FileLines
pub mod Files
pub mod Streams
pub mod Versions
pub mod Words
