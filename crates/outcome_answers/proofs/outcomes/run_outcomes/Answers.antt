use Rattle.outcome_answers.proofs.Vocabulary.{sym, string_bytes, file_line, prints_more, IsTold, no_file, AreOutcomes, HasNoList, PrintsOutcomes}
use Rattle.answers.proofs.{PrintedRefusals.prints_refusal, ToldAnswers.told_answer}
use Rattle.outcome_answers.proofs.outcomes.run_outcomes.Goals as goal

pub returns-in-Ok-clause-told : goal.returns-in-Ok-clause-told
returns-in-Ok-clause-told g c =
    let input = g.R.Read.remaining c.args.input.now in
    let files = g.S.FileStore.held c.args.files.now in
    let asked = c.args.asked.now in
    prints_more (IsTold c.args.asked.now.json c.outcomes_reply-reply.result) (AreOutcomes asked input files) _ _ c.print_answer-status.result
    (told_answer (PrintsOutcomes asked) (HasNoList asked.fences.items) asked.json (string_bytes asked.litmus) input files c.in-Ok.bytes.items (rw c.as_str-litmus.ensures.value at c.in-Ok.ensures.whole) c.outcomes_reply-reply.result
    (rw c.deref-in-Ok.ensures.value at c.outcomes_reply-reply.ensures.list) (rw c.deref-in-Ok.ensures.value at c.outcomes_reply-reply.ensures.refused))
    (rw (sym c.tell_slip.ensures) at c.print_answer-status.ensures)

pub returns-in-Err-clause-told : goal.returns-in-Err-clause-told
returns-in-Err-clause-told g c =
    prints_refusal c.args.asked.now.json c.file_line.result (file_line c.in-Err.fault) _ _ _ c.tell_refusal.result
    (λ text says. no_file c.in-Err.fault text (rw c.as_str-litmus.ensures.value at c.in-Err.ensures.err) says) c.file_line.ensures c.tell_refusal.ensures

pub returns-in-Ok-clause-read : goal.returns-in-Ok-clause-read
returns-in-Ok-clause-read g c = rw c.as_str-litmus.ensures.value at c.named_bytes.ensures.read

pub returns-in-Err-clause-read : goal.returns-in-Err-clause-read
returns-in-Err-clause-read g c = rw c.as_str-litmus.ensures.value at c.named_bytes.ensures.read
