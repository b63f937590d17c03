use Rattle.fencer.proofs.Vocabulary.{refl, prints_more, text_fault_line}
use Rattle.answers.proofs.PrintedRefusals.{prints_refusal}
use Rattle.fencer.specs.Whys.{explained, refused_for}
use Rattle.fencer.proofs.whys.explain_texts.Goals as goal

pub returns-in-Ok-clause-told : goal.returns-in-Ok-clause-told
returns-in-Ok-clause-told g c =
    prints_more _ _ _ _ c.deliver.result (λ status text is. explained c.in-Ok.answer status text c.in-Ok.ensures.told is) (rw (c.tell_ties.ensures, c.as_deref-page.ensures.value, c.as_deref-graphs.ensures.value) at c.deliver.ensures.told)

pub returns-in-Err-clause-told : goal.returns-in-Err-clause-told
returns-in-Err-clause-told g c =
    prints_refusal c.args.asked.now.placement.json c.text_fault_line.result (text_fault_line c.in-Err.fault) _ _ _ c.tell_refusal.result
    (λ text says. refused_for c.in-Err.fault text c.in-Err.ensures.fault says (λ name. refl)) c.text_fault_line.ensures c.tell_refusal.ensures
