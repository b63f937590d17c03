use Rattle.fencer.proofs.Vocabulary.{refl, prints_more, placed, refused_for, text_fault_line}
use Rattle.answers.proofs.PrintedRefusals.{prints_refusal}
use Rattle.fencer.proofs.place.place_texts.Goals as goal

pub returns-in-Ok-clause-told : goal.returns-in-Ok-clause-told
returns-in-Ok-clause-told g c =
    prints_more _ _ _ _ c.deliver_placed.result (λ status text is. placed c.in-Ok.placed.answer c.in-Ok.placed.inserted status text c.in-Ok.ensures.placed is) (rw c.tell_ties.ensures at c.deliver_placed.ensures.told)

pub returns-in-Err-clause-told : goal.returns-in-Err-clause-told
returns-in-Err-clause-told g c =
    prints_refusal c.args.asked.now.json c.text_fault_line.result (text_fault_line c.in-Err.fault) _ _ _ c.tell_refusal.result
    (λ text says. refused_for c.in-Err.fault text c.in-Err.ensures.fault says (λ name. refl)) c.text_fault_line.ensures c.tell_refusal.ensures
