use Rattle.cert_check.proofs.Vocabulary.{All, sym, subst, all_sets, question_of, gaps_in, StoreBufferMachine, empty_sketch, IsValidCoverBy, IsValidGap, names_of, IsRunOutside, IsValidCertificateOf, IsFirstFault, HasServingSet, HasForeignRuns, HasEachOutcome, HavePassed, err_up}
use Rattle.cert_check.proofs.Vocabulary.{on_ok}
use Rattle.cert_check.proofs.{Assembled.assembled, FirstFaults.foreign_are_runs}
use Rattle.cert_check.proofs.checker.Claim.check_proof.Goals as goal

pub returns-in_err-check_fenced-clause-fault : goal.returns-in_err-check_fenced-clause-fault
returns-in_err-check_fenced-clause-fault c =
    let q = question_of c.args.self.now in
    let costs = c.args.self.now.costs.now.costs in
    let claim = c.args.self.now.certificate.now in
    let outs = c.in_ok-listed.listed.items in
    let complete : HasEachOutcome q costs claim outs =
    record { listed = record { head = c.requires.head; replayed = c.in_ok-listed.ensures.replayed }; sequential = c.in_ok-listed.ensures.sequential } in
    let foreign_runs : All (IsRunOutside q outs) claim.runs = subst (λ xs. All (IsRunOutside q xs) claim.runs) c.deref.ensures.value c.in_ok-passed.ensures.foreign in
    let foreign : HasForeignRuns q costs claim outs = record {
      replayed = record { complete = complete; runs = foreign_are_runs q outs claim.runs foreign_runs };
      foreign = foreign_runs;
    } in
    err_up c.from_residual-in_err-check_fenced.result c.in_err-check_fenced.field-0.0 (IsFirstFault q costs claim) c.from_residual-in_err-check_fenced.ensures.1
    (c.in_err-check_fenced.ensures.fault costs (subst (λ xs. HasForeignRuns q costs claim xs) (sym c.deref-2.ensures.value) foreign))

pub returns : goal.returns
returns c =
    let q = question_of c.args.self.now in
    let costs = c.args.self.now.costs.now.costs in
    let claim = c.args.self.now.certificate.now in
    let outs = c.in_ok-listed.listed.items in
    let complete : HasEachOutcome q costs claim outs =
    record { listed = record { head = c.requires.head; replayed = c.in_ok-listed.ensures.replayed }; sequential = c.in_ok-listed.ensures.sequential } in
    let foreign_runs : All (IsRunOutside q outs) claim.runs = subst (λ xs. All (IsRunOutside q xs) claim.runs) c.deref.ensures.value c.in_ok-passed.ensures.foreign in
    let foreign : HasForeignRuns q costs claim outs = record {
      replayed = record { complete = complete; runs = foreign_are_runs q outs claim.runs foreign_runs };
      foreign = foreign_runs;
    } in
    let serving : HasServingSet q costs claim outs = record {
      runs = foreign;
      fenced = subst (λ xs. IsValidCoverBy claim.rule q (StoreBufferMachine (gaps_in q.program claim.gaps)) xs claim.fenced_tree (empty_sketch q.program)) c.deref-2.ensures.value c.in_ok-check_fenced.ensures.fenced;
    } in
    let passed = subst (HavePassed q claim.runs) (sym c.deref-3.ensures.value) c.in_ok-passed.ensures.passed in
    record {
      valid = on_ok c.check_gaps.result (IsValidGap q costs (names_of q claim) claim.runs claim.gap_tree all_sets) (IsValidCertificateOf q costs claim) (assembled q costs claim outs serving) (c.check_gaps.ensures.least q.program q.shown passed);
      fault = c.check_gaps.ensures.fault q.program q.shown outs passed serving;
    }
