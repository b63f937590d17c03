use Rattle.hunt_board.proofs.Vocabulary.{List, subst, Receipt, CloseFaultIs, RecordFaultIs}
use Rattle.hunt_board.proofs.CloseFaults.{of_record, passed_on}
use Rattle.hunt_board.proofs.hunt.Hunt.close.Goals as goal

pub returns-in_err-check_receipts-clause-fault : goal.returns-in_err-check_receipts-clause-fault
returns-in_err-check_receipts-clause-fault c =
    let finished = c.in-Some.finished in
    let why = c.in_err-check_receipts.field-0.0 in
    passed_on c.from_residual.result why (CloseFaultIs c.args.self c.args.receipts.items) c.from_residual.ensures.1
    (of_record c.args.self finished c.args.receipts.items why c.recall_facts.ensures.outcome c.in-Some.ensures.0 c.in-Some.ensures.1
    (subst (λ (l : List Receipt). RecordFaultIs finished.entries l why) c.deref.ensures.value c.in_err-check_receipts.ensures.fault))
