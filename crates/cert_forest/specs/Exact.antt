-- What the public reader answers.
use Rattle.std.specs.Prelude.{◌≡◌, ℕ, ◌<◌, List, length, take, Result, Ok, Err}
use Rattle.cert_forest.specs.declared.fault.CertFault.{CertFault, TheVariants.OutOfMemory}
use Rattle.cert_forest.specs.Certificates.{Certificate}
use Rattle.cert_forest.specs.Limits.{IsCertificate}

-- what was answered is this certificate, unless memory ran out
abbrev pub GivesExactly : Result Certificate CertFault → Certificate → Type 0
GivesExactly (Ok found) c = found ≡ c
GivesExactly (Err e) c = e ≡ OutOfMemory

-- the bytes before this place are a certificate's text, and more follow
pub record HasMore (bytes : List ℕ) (place : ℕ) : Type 0 where
  pub front : Certificate
  pub of_front : IsCertificate (take place bytes) front
  pub more : place < length bytes
