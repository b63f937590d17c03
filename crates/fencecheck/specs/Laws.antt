-- What an accepted input is.
use Rattle.std.specs.Prelude.{◌≡◌, ◌++◌, ℕ, List, Some, replicate}
use Rattle.tso_program.specs.declared.listing.Listing.{Listing}
use Rattle.tso_program.specs.Listings.{gap_count}
use Rattle.tso_program.specs.Shown.{asked}
use Rattle.litmus_reader.specs.declared.litmus.Litmus.{Litmus}
use Rattle.litmus_reader.specs.Texts.{IsLitmus}
use Rattle.cert_forest.specs.Certificates.{Certificate}
use Rattle.cert_forest.specs.Limits.{IsCertificate}
use Rattle.cert_check.specs.Certificates.{IsValidCertificate}
use Rattle.report.specs.Answers.{accepted_line}
use Rattle.fencecheck.specs.Verdicts.{handed_in}
use Rattle.fencecheck.specs.Replies.{IsVerdictOnInput}

-- The bytes are a litmus text and after it the text of a certificate that is valid for its program with cost 1 for each gap,
-- and the line is made of the certificate's set and cost.
pub record IsCertified (bytes line : List ℕ) : Type 0 where
  pub litmus : List ℕ
  pub certificate : List ℕ
  pub joined : bytes ≡ litmus ++ certificate
  pub program : Litmus Listing
  pub of_litmus : IsLitmus litmus program
  pub claimed : Certificate
  pub of_certificate : IsCertificate certificate claimed
  pub valid : IsValidCertificate (asked program.program (handed_in program claimed.shown)) (replicate (gap_count program.program.threads) 1) claimed
  pub printed : line ≡ accepted_line program.program (handed_in program claimed.shown) claimed.gaps claimed.cost

-- where the reply to an input alone has status 0, the input is so certified
abbrev pub AcceptedInputsAreCertified : Type 0
AcceptedInputsAreCertified = (bytes line : List ℕ) → IsVerdictOnInput (Some bytes) 0 line → IsCertified bytes line
