pub mod CommandFiles
pub mod Places
pub mod CommandLines
pub mod Commands
pub mod Internal
