use Rattle.cert_check.proofs.Vocabulary.{asked_with, question_of, IsValidCertificate, IsValidCertificateOf, IsFirstFault, CheckFaultIs, on_ok, if_err}
use Rattle.cert_check.proofs.JudgedFaults.{slim_head, of_slim, slim_fault}
use Rattle.cert_check.proofs.checker.Claim.check_without_dead_loads.Goals as goal

pub check_proof-requires : goal.check_proof-requires
check_proof-requires c = record {
  head = slim_head c.args.self.now.costs.now.ties c.args.self.now.program.now c.args.self.now.shown.now c.in_ok-slim.slim c.in_ok-slim.ensures c.args.self.now.costs.now.costs c.args.self.now.certificate.now c.requires.head;
}

pub returns-clause-valid : goal.returns-clause-valid
returns-clause-valid c =
    let claim = c.args.self.now in
    let costs = claim.costs.now.costs in
    let certificate = claim.certificate.now in
    on_ok c.check_proof.result (IsValidCertificateOf (asked_with claim.costs.now.ties c.in_ok-slim.slim claim.shown.now) costs certificate) (IsValidCertificate (question_of claim) costs certificate)
    (of_slim claim.costs.now.ties claim.program.now claim.shown.now c.in_ok-slim.slim c.in_ok-slim.ensures costs certificate c.requires.early (λ judged. IsValidCertificateOf judged costs certificate)) c.check_proof.ensures.valid

pub returns-clause-fault : goal.returns-clause-fault
returns-clause-fault c =
    let claim = c.args.self.now in
    let costs = claim.costs.now.costs in
    let certificate = claim.certificate.now in
    if_err c.check_proof.result (IsFirstFault (asked_with claim.costs.now.ties c.in_ok-slim.slim claim.shown.now) costs certificate) (CheckFaultIs (question_of claim) costs certificate)
    (slim_fault claim.costs.now.ties claim.program.now claim.shown.now c.in_ok-slim.slim c.in_ok-slim.ensures costs certificate c.requires.early) c.check_proof.ensures.fault
