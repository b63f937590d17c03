use Rattle.fencer.proofs.Vocabulary.{sym, refl, option_map, prints_more, file_line}
use Rattle.answers.proofs.PrintedRefusals.{prints_refusal}
use Rattle.fencer.specs.Whys.{of_texts, no_texts}
use Rattle.fencer.proofs.whys.run_why.Goals as goal

pub returns-in-Ok-clause-told : goal.returns-in-Ok-clause-told
returns-in-Ok-clause-told g c =
    prints_more _ _ _ _ c.explain_texts-status.result (λ status text is. of_texts c.in-Ok.texts.litmus.items (option_map (λ text. text.items) c.in-Ok.texts.costs) status text (rw (c.as_str-litmus.ensures.value, c.as_deref-costs.ensures.value) at c.in-Ok.ensures.texts) is) (rw (sym c.tell_slip_compared.ensures) at c.explain_texts-status.ensures.told)

pub returns-in-Err-clause-told : goal.returns-in-Err-clause-told
returns-in-Err-clause-told g c =
    prints_refusal c.args.asked.now.placement.json c.file_line.result (file_line c.in-Err.file.fault) _ _ _ c.tell_refusal.result
    (λ text says. no_texts c.in-Err.file.fault text (rw (c.as_str-litmus.ensures.value, c.as_deref-costs.ensures.value) at c.in-Err.ensures.err) says (λ name. refl)) c.file_line.ensures c.tell_refusal.ensures

pub returns-in-Ok-clause-read : goal.returns-in-Ok-clause-read
returns-in-Ok-clause-read g c = rw c.as_str-litmus.ensures.value at c.read_texts.ensures.read

pub returns-in-Err-clause-read : goal.returns-in-Err-clause-read
returns-in-Err-clause-read g c = rw c.as_str-litmus.ensures.value at c.read_texts.ensures.read
