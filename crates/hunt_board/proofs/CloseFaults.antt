-- Faults of receipts against the record of a hunt that is done.
use Rattle.hunt_board.proofs.Vocabulary.{◌≡◌, List, Result, Ok, Err, sym, subst, Outcome, IsOutcome, Receipt, HuntView, CloseFaultIs, RecordFaultIs, IfErr, IsErrAnd}
use Rattle.hunt_board.specs.declared.fault.CloseFault.{CloseFault}
use Rattle.hunt_board.specs.declared.fault.CloseFault.TheVariants as fault

-- against the record that the hunt has left
pub of_record : (h : HuntView) (o : Outcome) (receipts : List Receipt) (why : CloseFault) → IsOutcome o → o.question ≡ h.question → o.costs ≡ h.costs → RecordFaultIs o.entries receipts why → CloseFaultIs h receipts why
of_record h o receipts fault.NotDone is question costs never = absurd never
of_record h o receipts (fault.Receipt i) is question costs wrong = (o, record { outcome = is; question = question; costs = costs }, wrong)
of_record h o receipts fault.Count is question costs few = (o, record { outcome = is; question = question; costs = costs }, few.0, few.1)
of_record h o receipts fault.OutOfMemory is question costs any = tt

-- a fault that is passed on as it is
pub passed_on : {T E : Type 0} (r : Result T E) (why : E) (P : E → Type 0) → IsErrAnd r (λ x. x ≡ why) → P why → IfErr r P
passed_on (Ok v) why P h p = tt
passed_on (Err x) why P h p = subst P (sym h) p
