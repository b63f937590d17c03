use Rattle.cert_check.proofs.Vocabulary.{unfenced}
use Rattle.cert_check.proofs.Replayed.{fault_is}
use Rattle.cert_check.proofs.runs.replay_one.Goals as goal

pub returns-in-Err-clause-fault : goal.returns-in-Err-clause-fault
returns-in-Err-clause-fault c =
    fault_is c.args.program.now (unfenced c.args.model) c.args.labels.now c.in-Err.fault c.args.number c.runs_fault.result c.in-Err.ensures.fault c.runs_fault.ensures
