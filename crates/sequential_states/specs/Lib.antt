pub mod Executions
pub mod Examples
pub mod Internal
