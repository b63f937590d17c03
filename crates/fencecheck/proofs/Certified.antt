-- What an accepted input is.
use Rattle.fencecheck.proofs.Vocabulary.{◌≡◌, ℕ, List, None, Some, refl, sym, ap, ◌∙◌, subst, arith, asked, asked_with, ArePartsOf, IsVerdictOnInput, judged, no_input, IsVerdict, accepted, refused, IsAccepted, handed_in}
use Rattle.gap_sets.specs.Order.{total}
use Rattle.gap_sets.specs.Ties.{names_in}
use Rattle.cert_check.specs.Certificates.{IsValidCertificate}
use Rattle.cert_check.proofs.RightClaims.{right_claim}
use Rattle.report.specs.Answers.{accepted_line}
use Rattle.fencecheck.specs.Laws.{IsCertified, AcceptedInputsAreCertified}

certified : (bytes litmus certificate line : List ℕ) → ArePartsOf bytes litmus certificate → IsAccepted litmus certificate None line → IsCertified bytes line
certified bytes litmus certificate line parts is =
    let told = is.told in
    let p = told.program.program in
    let costs = told.gap_costs.costs in
    let ties = told.gap_costs.ties in
    let claimed = is.claimed in
    let claim = right_claim (asked_with ties p told.shown) costs claimed is.valid in
    let same_shown = claim.shown in
    let as_asked = ap (handed_in told.program) same_shown ∙ told.as_asked in record {
      litmus = litmus;
      certificate = certificate;
      joined = parts.parts.joined;
      program = told.program;
      of_litmus = told.of_text;
      claimed = claimed;
      of_certificate = is.of_certificate;
      valid = subst (λ costs. IsValidCertificate (asked p (handed_in told.program claimed.shown)) costs claimed) told.given.0
          (subst (λ (ties : List ℕ). IsValidCertificate (asked_with ties p (handed_in told.program claimed.shown)) costs claimed) told.given.1
          (subst (λ shown. IsValidCertificate (asked_with ties p shown) costs claimed) (sym as_asked) is.valid));
      printed = told.printed ∙ ap (λ shown. accepted_line p shown told.gaps (total costs (names_in ties told.gaps))) (sym as_asked)
          ∙ ap (λ gaps. accepted_line p (handed_in told.program claimed.shown) gaps (total costs (names_in ties gaps))) (sym is.claims)
          ∙ ap (accepted_line p (handed_in told.program claimed.shown) claimed.gaps) (sym claim.cost);
    }

of_verdict : (bytes litmus certificate line : List ℕ) (status : ℕ) → ArePartsOf bytes litmus certificate → IsVerdict litmus certificate None status line → status ≡ 0 → IsCertified bytes line
of_verdict bytes litmus certificate _ _ parts (accepted line is) zero = certified bytes litmus certificate line parts is
of_verdict bytes litmus certificate _ _ parts (refused why is) zero = absurd (omega (arith, zero))

of_reply : (bytes line : List ℕ) (status : ℕ) → IsVerdictOnInput (Some bytes) status line → status ≡ 0 → IsCertified bytes line
of_reply bytes _ _ (judged held litmus certificate status line holds parts is) zero =
    of_verdict bytes litmus certificate line status (subst (λ (xs : List ℕ). ArePartsOf xs litmus certificate) (sym holds) parts) is zero
of_reply bytes _ _ (no_input why is) zero = absurd (omega (arith, zero))

pub accepted_inputs_are_certified : AcceptedInputsAreCertified
accepted_inputs_are_certified bytes line is = of_reply bytes line 0 is refl
