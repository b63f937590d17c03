use Rattle.fence_place.proofs.Vocabulary.{Ok, Err, Result, PlaceFault, IfErr}
use Rattle.fence_place.proofs.Workers.{hunt_fails}
use Rattle.fence_place.proofs.hunting.hunt.Goals as goal

if_err : {X : Type 0} (P Q : PlaceFault → Type 0) (r : Result X PlaceFault) → ((why : PlaceFault) → P why → Q why) → IfErr r P → IfErr r Q
if_err P Q (Ok x) f h = tt
if_err P Q (Err why) f h = f why h

pub returns-clause-fault : goal.returns-clause-fault
returns-clause-fault g c = if_err _ _ c.close.result (λ why is. hunt_fails c.in_ok-hunt.hunt (g.O.Oracle.may_lack_runs c.args.oracle.now) _ why c.work_all-row.ensures is) c.close.ensures.fault
