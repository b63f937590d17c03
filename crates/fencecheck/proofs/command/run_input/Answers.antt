use Rattle.fencecheck.proofs.Vocabulary.{None, prints_more, prints_line, file_line, IsVerdict, IsVerdictOnInput, judged, no_input}
use Rattle.fencecheck.proofs.Joined.{parts_seen}
use Rattle.fencecheck.proofs.command.run_input.Goals as goal

pub returns-in-Ok-clause-printed : goal.returns-in-Ok-clause-printed
returns-in-Ok-clause-printed g c =
    let bytes = c.in-Ok.joined.bytes.items in
    let litmus = c.split_at.result.0.now in
    let certificate = c.split_at.result.1.now in
    prints_more (IsVerdict litmus certificate None) (IsVerdictOnInput (g.R.Read.remaining c.args.input.now)) _ _ c.print_verdict.result
    (λ status text is. judged bytes litmus certificate status text c.in-Ok.ensures.whole
    (parts_seen bytes c.deref.result.now litmus certificate c.in-Ok.joined.start c.deref.ensures.value c.split_at.ensures.front c.split_at.ensures.back c.in-Ok.ensures.parts) is) c.print_verdict.ensures

pub returns-in-Err-clause-printed : goal.returns-in-Err-clause-printed
returns-in-Err-clause-printed g c =
    let why = c.in-Err.fault in
    prints_line c.file_line.result 1 (file_line why) (IsVerdictOnInput (g.R.Read.remaining c.args.input.now)) _ _ c.refuse.result
    (no_input why c.in-Err.ensures.err) c.file_line.ensures c.refuse.ensures
