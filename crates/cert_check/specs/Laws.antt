-- What the faults of certificates are: a valid one has none, and of any other one is the first.
use Rattle.std.specs.Prelude.{◌≡◌, ◌⊎◌, ℕ, List}
use Rattle.tso_program.specs.declared.question.Question.{Question}
use Rattle.cert_forest.specs.Certificates.{Certificate}
use Rattle.tree_laws.specs.Certificates.{IsValidCertificate}
use Rattle.cert_forest.specs.declared.check_fault.CheckFault.{CheckFault, TheVariants.OutOfMemory}
use Rattle.cert_check.specs.Faults.{CheckFaultIs, HasHead}

-- no fault but out of memory fits a valid certificate
abbrev pub ValidCertificatesHaveNoFault : Type 0
ValidCertificatesHaveNoFault = (q : Question) (costs : List ℕ) (c : Certificate) (why : CheckFault) → IsValidCertificate q costs c →
    CheckFaultIs q costs c why → why ≡ OutOfMemory

-- two faults that both fit a certificate are the same, or one of them is out of memory, and then its head is right
abbrev pub TheFirstCheckFaultIsUnique : Type 0
TheFirstCheckFaultIsUnique = (q : Question) (costs : List ℕ) (c : Certificate) (why other : CheckFault) → CheckFaultIs q costs c why → CheckFaultIs q costs c other →
    (why ≡ other) ⊎ (((why ≡ OutOfMemory) ⊎ (other ≡ OutOfMemory)) × HasHead q costs c)
