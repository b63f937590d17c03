-- The verdict on the texts of a program, a certificate and costs.
use Rattle.std.specs.Prelude.{◌≡◌, ◌⊎◌, ℕ, List, Option}
use Rattle.gap_sets.specs.Gaps.{SetOfGaps}
use Rattle.gap_sets.specs.Order.{total}
use Rattle.gap_sets.specs.Ties.{names_in}
use Rattle.gap_sets.specs.declared.ties.TiedCosts.{TiedCosts}
use Rattle.tso_program.specs.declared.listing.Listing.{Listing}
use Rattle.tso_program.specs.declared.shown.Shown.{Shown, TheVariants.All, TheVariants.Truth}
use Rattle.tso_program.specs.Shown.{asked_with}
use Rattle.litmus_reader.specs.Shown.{shown_by}
use Rattle.litmus_reader.specs.declared.litmus.Litmus.{Litmus}
use Rattle.litmus_reader.specs.Texts as litmus_texts
use Rattle.cert_forest.specs.declared.fault.CertFault.{CertFault}
use Rattle.cert_forest.specs.declared.fault.CertFault.TheVariants as cert_fault
use Rattle.cert_forest.specs.declared.shows.Shows.{Shows}
use Rattle.cert_forest.specs.declared.shows.Shows.TheVariants as shows
use Rattle.cert_forest.specs.Shows.{shows_of}
use Rattle.cert_forest.specs.Certificates.{Certificate}
use Rattle.cert_forest.specs.Limits.{IsCertificate}
use Rattle.cert_forest.specs.Exact.{HasMore}
use Rattle.cost_text.specs.GivenCosts.{AreGiven, AreNotGiven}
use Rattle.cert_check.specs.Certificates.{IsValidCertificate}
use Rattle.cert_check.specs.Faults.{CheckFaultIs}
use Rattle.cert_check.specs.Headlines.{HeadlineOfAllowed}
use Rattle.report.specs.Answers.{accepted_line}
use Rattle.report.specs.CertificateLines.{certificate_line}
use Rattle.report.specs.CheckLines.{check_line}
use Rattle.report.specs.Faults.{litmus_line, costs_line}
use Rattle.report.specs.Outcomes.{Headline}
use Rattle.fencecheck.specs.declared.judge.Rejection.{Rejection}
use Rattle.fencecheck.specs.declared.judge.Rejection.TheVariants as rejection

-- the first text is a program's, and the second this certificate's
pub record Spell (litmus certificate : List ℕ) (program : Litmus Listing) (claimed : Certificate) : Type 0 where
  pub of_program : litmus_texts.IsLitmus litmus program
  pub of_certificate : IsCertificate certificate claimed

-- What is shown of outcomes, as the certificate asks: all, what the condition and `locations` of the litmus text name, or whether the
-- condition's formula is true.
abbrev pub handed_in : Litmus Listing → Shows → Shown
handed_in litmus shows.All = All
handed_in litmus (shows.Only names) = shown_by litmus.condition.formula litmus.observed
handed_in litmus shows.Condition = Truth litmus.condition.formula

-- What a line says that is relied on: the litmus text stands for this program, its gaps have these costs and ties; as far as outcomes
-- are shown, the headline holds of the names of these gaps, and of the gaps among sets that have of each tie all or none; and the line is
-- made of the gaps and of their total, where a tie costs once.
pub record Tells (litmus : List ℕ) (costs : Option (List ℕ)) (line : List ℕ) : Type 0 where
  pub program : Litmus Listing
  pub of_text : litmus_texts.IsLitmus litmus program
  pub gap_costs : TiedCosts
  pub given : AreGiven program.program costs gap_costs
  pub shown : Shown
  pub as_asked : handed_in program (shows_of shown) ≡ shown
  pub gaps : SetOfGaps
  pub headline : Headline (asked_with gap_costs.ties program.program shown) gap_costs.costs (names_in gap_costs.ties gaps)
  pub fenced : HeadlineOfAllowed (asked_with gap_costs.ties program.program shown) gap_costs.costs gaps
  pub printed : line ≡ accepted_line program.program shown gaps (total gap_costs.costs (names_in gap_costs.ties gaps))

-- The line accepts: it says that, and the certificate's text is that of a certificate which claims these gaps and is valid.
pub record IsAccepted (litmus certificate : List ℕ) (costs : Option (List ℕ)) (line : List ℕ) : Type 0 where
  pub told : Tells litmus costs line
  pub claimed : Certificate
  pub of_certificate : IsCertificate certificate claimed
  pub claims : claimed.gaps ≡ told.gaps
  pub valid : IsValidCertificate (asked_with told.gap_costs.ties told.program.program told.shown) told.gap_costs.costs claimed

-- why bytes are not a certificate's text: what the fault says of them, and that no certificate has this text, out of memory aside
pub record IsNoCertificate (text : List ℕ) (fault : CertFault) : Type 0 where
  pub trailing : (place : ℕ) → fault ≡ cert_fault.Trailing place → HasMore text place
  pub more : (place : ℕ) → HasMore text place → (fault ≡ cert_fault.Trailing place) ⊎ (fault ≡ cert_fault.OutOfMemory)
  pub none : (c : Certificate) → IsCertificate text c → fault ≡ cert_fault.OutOfMemory

-- Why a certificate is refused: the litmus text is judged first, then the certificate's text, the costs, and what the
-- certificate shows.
abbrev pub IsRefused : List ℕ → List ℕ → Option (List ℕ) → Rejection → Type 0
IsRefused litmus certificate costs (rejection.Litmus fault) = litmus_texts.IsNoLitmus litmus fault
IsRefused litmus certificate costs (rejection.Certificate fault) =
    (program : Litmus Listing) × litmus_texts.IsLitmus litmus program × IsNoCertificate certificate fault
IsRefused litmus certificate costs (rejection.Costs fault) =
    (program : Litmus Listing) × (claimed : Certificate) × Spell litmus certificate program claimed × AreNotGiven program.program costs fault
IsRefused litmus certificate costs (rejection.Check fault) =
    (program : Litmus Listing) × (claimed : Certificate) × (gap_costs : TiedCosts) × Spell litmus certificate program claimed
    × AreGiven program.program costs gap_costs × CheckFaultIs (asked_with gap_costs.ties program.program (handed_in program claimed.shown)) gap_costs.costs claimed fault

-- the line of a refusal
abbrev pub refusal_line : Rejection → List ℕ
refusal_line (rejection.Litmus fault) = litmus_line fault
refusal_line (rejection.Certificate fault) = certificate_line fault
refusal_line (rejection.Costs fault) = costs_line fault
refusal_line (rejection.Check fault) = check_line fault

-- what is printed, with its status: the line that accepts, or that of a refusal
pub data IsVerdict (litmus certificate : List ℕ) (costs : Option (List ℕ)) : ℕ → List ℕ → Type 0 where
  accepted : (line : List ℕ) → IsAccepted litmus certificate costs line → IsVerdict litmus certificate costs 0 line
  refused : (why : Rejection) → IsRefused litmus certificate costs why → IsVerdict litmus certificate costs 1 (refusal_line why)
