use Rattle.answers.proofs.Vocabulary.{Ok, refl, AllocError, prints_made, refusal_line, IsTold}
use Rattle.answers.proofs.PrintedRefusals.{prints_refusal}
use Rattle.answers.proofs.refusals.print_answer.Goals as goal

pub returns-in-Ok : goal.returns-in-Ok
returns-in-Ok g c =
    prints_made {E = AllocError} (Ok c.in-Ok.reply.lines) c.in-Ok.reply.status (IsTold c.args.json c.args.answer) _ _ c.print.result (rw c.in-Ok.is (refl, refl)) c.print.ensures

pub returns-in-Err : goal.returns-in-Err
returns-in-Err g c =
    prints_refusal c.args.json c.refusal_line.result (refusal_line c.in-Err.why) (IsTold c.args.json c.args.answer) _ _ c.tell_refusal.result
    (λ text says. rw c.in-Err.is (refl, says)) c.refusal_line.ensures c.tell_refusal.ensures
