pub mod Examples
pub mod Internal
pub mod Laws
pub mod Safe
pub mod Texts
pub mod Values
