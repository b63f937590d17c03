use Rattle.answers.proofs.Vocabulary.{false, string_bytes, file_line, prints_more, IsTold, no_file, label_words_text, HasNoRun, IsReplay, ShowsRun}
use Rattle.answers.proofs.{PrintedRefusals.prints_refusal, ToldAnswers.told_answer}
use Rattle.answers.proofs.replays.run_replay.Goals as goal

pub returns-in-Ok-clause-told : goal.returns-in-Ok-clause-told
returns-in-Ok-clause-told g c =
    let labels = label_words_text c.args.asked.now.labels.items in
    let input = g.R.Read.remaining c.args.input.now in
    let files = g.S.FileStore.held c.args.files.now in
    prints_more (IsTold false c.replay_lines.result) (IsReplay c.args.asked.now.model labels (string_bytes c.args.asked.now.litmus) input files) _ _ c.print_answer.result
    (told_answer (ShowsRun c.args.asked.now.model labels) (HasNoRun c.args.asked.now.model labels) false (string_bytes c.args.asked.now.litmus) input files c.in-Ok.bytes.items (rw c.as_str.ensures.value at c.in-Ok.ensures.whole) c.replay_lines.result
    (rw (c.deref-in-Ok.ensures.value, c.as_slice-in-Ok.ensures.value) at c.replay_lines.ensures.run) (rw (c.deref-in-Ok.ensures.value, c.as_slice-in-Ok.ensures.value) at c.replay_lines.ensures.refused))
    c.print_answer.ensures

pub returns-in-Err-clause-told : goal.returns-in-Err-clause-told
returns-in-Err-clause-told g c =
    prints_refusal false c.file_line.result (file_line c.in-Err.fault) _ _ _ c.tell_refusal.result
    (λ text says. no_file c.in-Err.fault text (rw c.as_str.ensures.value at c.in-Err.ensures.err) says) c.file_line.ensures c.tell_refusal.ensures

pub returns-in-Ok-clause-read : goal.returns-in-Ok-clause-read
returns-in-Ok-clause-read g c = rw c.as_str.ensures.value at c.named_bytes.ensures.read

pub returns-in-Err-clause-read : goal.returns-in-Err-clause-read
returns-in-Err-clause-read g c = rw c.as_str.ensures.value at c.named_bytes.ensures.read
