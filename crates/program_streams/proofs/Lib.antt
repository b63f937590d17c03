pub mod StreamLaws
pub mod Kept
pub mod Printed
