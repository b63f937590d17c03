use Rattle.cert_check.proofs.Vocabulary.{refl, sym, subst, asked_with, IsValidCertificate}
use Rattle.tree_laws.proofs.RightClaims.{right_claim}
use Rattle.cert_check.proofs.AllowedSets.{of_allowed}
use Rattle.cert_check.proofs.JudgedFaults.{valid_certificates_have_no_fault}
use Rattle.cert_check.proofs.checker.check.Goals as goal

pub returns-in-Ok-clause-headline : goal.returns-in-Ok-clause-headline
returns-in-Ok-clause-headline c =
    let q = asked_with c.args.costs.now.ties c.args.program.now c.args.shown.now in
    (c.certificate_proves_answer.ensures.valid q _ refl (subst (IsValidCertificate q c.args.costs.now.costs) (sym c.certificate.view_is) c.in-Ok.ensures.valid)).headline

pub returns-in-Ok-clause-answer : goal.returns-in-Ok-clause-answer
returns-in-Ok-clause-answer c =
    let q = asked_with c.args.costs.now.ties c.args.program.now c.args.shown.now in
    (c.certificate_proves_answer.ensures.valid q _ refl (subst (IsValidCertificate q c.args.costs.now.costs) (sym c.certificate.view_is) c.in-Ok.ensures.valid)).answer

pub returns-in-Ok-clause-best : goal.returns-in-Ok-clause-best
returns-in-Ok-clause-best c =
    let q = asked_with c.args.costs.now.ties c.args.program.now c.args.shown.now in
    let valid = subst (IsValidCertificate q c.args.costs.now.costs) (sym c.certificate.view_is) c.in-Ok.ensures.valid in
    (c.certificate_proves_answer.ensures.told q _ _ refl (c.certificate_proves_answer.ensures.valid q _ refl valid).headline (right_claim q c.args.costs.now.costs _ valid).cost).0

pub returns-in-Ok-clause-least : goal.returns-in-Ok-clause-least
returns-in-Ok-clause-least c =
    let q = asked_with c.args.costs.now.ties c.args.program.now c.args.shown.now in
    let valid = subst (IsValidCertificate q c.args.costs.now.costs) (sym c.certificate.view_is) c.in-Ok.ensures.valid in
    (c.certificate_proves_answer.ensures.told q _ _ refl (c.certificate_proves_answer.ensures.valid q _ refl valid).headline (right_claim q c.args.costs.now.costs _ valid).cost).1

pub returns-in-Err-clause-accepts : goal.returns-in-Err-clause-accepts
returns-in-Err-clause-accepts c valid = valid_certificates_have_no_fault (asked_with c.args.costs.now.ties c.args.program.now c.args.shown.now) c.args.costs.now.costs c.args.certificate.now c.in-Err.fault valid c.in-Err.ensures.fault

pub returns-in-Ok-clause-fenced : goal.returns-in-Ok-clause-fenced
returns-in-Ok-clause-fenced c =
    let q = asked_with c.args.costs.now.ties c.args.program.now c.args.shown.now in
    let valid = subst (IsValidCertificate q c.args.costs.now.costs) (sym c.certificate.view_is) c.in-Ok.ensures.valid in
    let right = (right_claim q c.args.costs.now.costs _ valid).right_set in
    of_allowed q c.args.costs.now.costs _ right.of_program right.allowed (c.certificate_proves_answer.ensures.valid q _ refl valid).headline
