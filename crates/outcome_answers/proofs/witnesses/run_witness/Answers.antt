use Rattle.outcome_answers.proofs.Vocabulary.{sym, refl, prints_more, file_line, of_text, no_text}
use Rattle.answers.proofs.PrintedRefusals.{prints_refusal}
use Rattle.outcome_answers.proofs.witnesses.run_witness.Goals as goal

pub returns-in-Ok-clause-told : goal.returns-in-Ok-clause-told
returns-in-Ok-clause-told g c =
    prints_more _ _ _ _ c.show_witness-status.result (λ status text is. of_text c.in-Ok.bytes.items status text (rw c.as_str-litmus.ensures.value at c.in-Ok.ensures.whole) is) (rw (c.deref.ensures.value, sym c.tell_slip.ensures) at c.show_witness-status.ensures.told)

pub returns-in-Err-clause-told : goal.returns-in-Err-clause-told
returns-in-Err-clause-told g c =
    prints_refusal c.args.asked.now.json c.file_line.result (file_line c.in-Err.fault) _ _ _ c.tell_refusal.result
    (λ text says. no_text c.in-Err.fault text (rw c.as_str-litmus.ensures.value at c.in-Err.ensures.err) says (λ name. refl)) c.file_line.ensures c.tell_refusal.ensures

pub returns-in-Ok-clause-read : goal.returns-in-Ok-clause-read
returns-in-Ok-clause-read g c = rw c.as_str-litmus.ensures.value at c.named_bytes.ensures.read

pub returns-in-Err-clause-read : goal.returns-in-Err-clause-read
returns-in-Err-clause-read g c = rw c.as_str-litmus.ensures.value at c.named_bytes.ensures.read
