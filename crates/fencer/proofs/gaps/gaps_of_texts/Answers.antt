use Rattle.fencer.proofs.Vocabulary.{Ok, AllocError, prints_made, text_fault_line}
use Rattle.answers.proofs.PrintedRefusals.{prints_refusal}
use Rattle.fencer.specs.GapTexts.{listed, refused_for}
use Rattle.fencer.proofs.gaps.gaps_of_texts.Goals as goal

pub returns-in-Ok : goal.returns-in-Ok
returns-in-Ok g c =
    prints_made {E = AllocError} (Ok c.in-Ok.lines) 0 _ _ _ c.print.result (listed c.in-Ok.lines.items c.in-Ok.ensures.lines) (rw c.tell_asked_ties.ensures at c.print.ensures)

pub returns-in-Err : goal.returns-in-Err
returns-in-Err g c =
    prints_refusal c.args.asked.now.json c.text_fault_line.result (text_fault_line c.in-Err.fault) _ _ _ c.tell_refusal.result
    (λ text says. refused_for c.in-Err.fault text c.in-Err.ensures.fault says) c.text_fault_line.ensures c.tell_refusal.ensures
