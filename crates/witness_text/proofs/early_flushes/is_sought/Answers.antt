use Rattle.witness_text.proofs.Vocabulary.{machine_of}
use Rattle.witness_text.proofs.SoughtRuns.{no_witness, witness_by_outcome}
use Rattle.witness_text.proofs.early_flushes.is_sought.Goals as goal

pub returns-in-Ok : goal.returns-in-Ok
returns-in-Ok c =
    let source = c.args.litmus.now in
    let sought = c.args.sought.now in
    witness_by_outcome source.program (machine_of source.program sought) source.condition.formula sought.meets c.args.labels.now c.in-Ok.ended.outcome c.holds.result c.in-Ok.ensures.run c.holds.ensures

pub returns-in_default : goal.returns-in_default
returns-in_default c =
    let source = c.args.litmus.now in
    let sought = c.args.sought.now in
    no_witness source.program (machine_of source.program sought) source.condition.formula sought.meets c.args.labels.now c.in-Err.fault c.in-Err.ensures.fault c.in_default.not-OutOfMemory
