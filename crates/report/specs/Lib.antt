pub mod Answers
pub mod CertificateLines
pub mod CheckLines
pub mod Faults
pub mod Laws
pub mod Observations
pub mod Places
-- words of the crates below, passed on
pub use Rattle.litmus_reader.specs.Names
pub use Rattle.litmus_reader.specs.declared.litmus.Litmus
pub use Rattle.tso_machine.specs.Outcomes
