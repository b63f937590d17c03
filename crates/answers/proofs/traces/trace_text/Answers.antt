use Rattle.answers.proofs.Vocabulary.{refl, prints_more, refusal_line}
use Rattle.answers.proofs.PrintedRefusals.{prints_refusal}
use Rattle.answers.specs.Traces.{traced, refused_for}
use Rattle.answers.proofs.traces.trace_text.Goals as goal

pub returns-in-Ok-clause-told : goal.returns-in-Ok-clause-told
returns-in-Ok-clause-told g c =
    prints_more _ _ _ _ c.deliver.result (λ status text is. traced c.in-Ok.answer status text c.in-Ok.ensures.told is) (rw (c.as_deref-page.ensures.value, c.as_deref-graph.ensures.value) at c.deliver.ensures.told)

pub returns-in-Err-clause-told : goal.returns-in-Err-clause-told
returns-in-Err-clause-told g c =
    prints_refusal c.args.asked.now.json c.refusal_line.result (refusal_line c.in-Err.why) _ _ _ c.tell_refusal.result
    (λ text says. refused_for c.in-Err.why text c.in-Err.ensures.refused says (λ name. refl)) c.refusal_line.ensures c.tell_refusal.ensures
