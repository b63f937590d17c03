use Rattle.fencecheck.proofs.Vocabulary.{Ok, prints_made, prints_line, accepted, refused, refusal_line}
use Rattle.std.specs.declared.alloc.AllocError.{AllocError}
use Rattle.fencecheck.proofs.command.print_verdict.Goals as goal

pub returns-in-Ok : goal.returns-in-Ok
returns-in-Ok g c =
    prints_made {E = AllocError} (Ok c.in-Ok.line) 0 _ _ _ c.print.result
    (accepted c.in-Ok.line.items c.in-Ok.ensures.accepted) c.print.ensures

pub returns-in-Err : goal.returns-in-Err
returns-in-Err g c =
    let why = c.in-Err.refusal in
    prints_line c.refusal_line.result 1 (refusal_line why) _ _ _ c.refuse.result
    (refused why c.in-Err.ensures.refused) c.refusal_line.ensures c.refuse.ensures
