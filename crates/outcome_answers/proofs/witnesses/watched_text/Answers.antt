use Rattle.outcome_answers.proofs.witnesses.watched_text.Goals as goal

pub returns-clause-told : goal.returns-clause-told
returns-clause-told g c = rw c.as_slice-fences.ensures.value at c.witness_text-said.ensures.told
