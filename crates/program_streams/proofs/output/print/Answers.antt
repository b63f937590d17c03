use Rattle.program_streams.specs.Streams.{IsMade}
use Rattle.program_streams.proofs.Printed.{says_all, says_front, prints_nothing}
use Rattle.program_streams.proofs.output.print.Goals as goal

pub returns-in-Ok-write_bytes : goal.returns-in-Ok-write_bytes
returns-in-Ok-write_bytes g c = says_all c.args.text c.in-Ok.text c.args.status _ _ c.in-Ok.is (rw c.deref.ensures.value at c.in-Ok-write_bytes.ensures.ok)

pub returns-in-Ok : goal.returns-in-Ok
returns-in-Ok g c = says_front c.args.text c.in-Ok.text c.args.status _ _ c.in-Ok.is (rw c.deref.ensures.value at c.in-Err-write_bytes.ensures.err)

pub returns : goal.returns
returns g c = prints_nothing (IsMade c.args.text c.args.status) _
