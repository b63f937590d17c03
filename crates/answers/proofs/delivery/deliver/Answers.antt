use Rattle.answers.proofs.Vocabulary.{Ok, AllocError, prints_made, file_line, kept, not_kept}
use Rattle.program_streams.specs.declared.fault.FileFault.TheVariants as file
use Rattle.answers.proofs.PrintedRefusals.{prints_refusal}
use Rattle.answers.proofs.delivery.deliver.Goals as goal

pub returns-in-Ok-clause-told : goal.returns-in-Ok-clause-told
returns-in-Ok-clause-told g c =
    prints_made {E = AllocError} (Ok c.args.answer.lines) c.args.answer.status _ _ _ c.print.result (kept c.in-Ok.ensures.kept) c.print.ensures

pub returns-in-Err-clause-told : goal.returns-in-Err-clause-told
returns-in-Err-clause-told g c =
    prints_refusal c.args.answer.json c.file_line.result (file_line file.Write) _ _ _ c.tell_refusal.result
    (λ text says. not_kept text c.in-Err.ensures.named says) c.file_line.ensures c.tell_refusal.ensures
