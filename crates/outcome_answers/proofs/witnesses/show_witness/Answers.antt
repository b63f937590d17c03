use Rattle.outcome_answers.proofs.Vocabulary.{refl, prints_more}
use Rattle.answers.proofs.PrintedRefusals.{prints_refusal}
use Rattle.outcome_answers.specs.Witnesses.{refused_for, shown, witness_line}
use Rattle.outcome_answers.proofs.witnesses.show_witness.Goals as goal

pub returns-in-Ok-clause-told : goal.returns-in-Ok-clause-told
returns-in-Ok-clause-told g c =
    prints_more _ _ _ _ c.deliver.result (λ status text is. shown c.in-Ok.answer status text c.in-Ok.ensures.told is) (rw (c.as_deref-page.ensures.value, c.as_deref-graph.ensures.value) at c.deliver.ensures.told)

pub returns-in-Err-clause-told : goal.returns-in-Err-clause-told
returns-in-Err-clause-told g c =
    prints_refusal c.args.asked.now.json c.witness_line.result (witness_line c.in-Err.why) _ _ _ c.tell_refusal.result
    (λ text says. refused_for c.in-Err.why text c.in-Err.ensures.fault says (λ name. refl)) c.witness_line.ensures c.tell_refusal.ensures
