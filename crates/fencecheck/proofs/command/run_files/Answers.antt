use Rattle.fencecheck.proofs.Vocabulary.{option_map, prints_more, prints_line, file_line, IsVerdict, file_names_of, IsReplyToFiles, judged, no_file}
use Rattle.fencecheck.proofs.command.run_files.Goals as goal

pub returns-in-Ok-clause-printed : goal.returns-in-Ok-clause-printed
returns-in-Ok-clause-printed g c =
    let texts = c.in-Ok.texts in
    prints_more (IsVerdict texts.litmus.items texts.certificate.items (option_map (λ text. text.items) texts.costs)) (IsReplyToFiles (file_names_of c.args.names) (g.R.Read.remaining c.args.input.now) (g.S.FileStore.held c.args.files.now)) _ _ c.tell_texts.result
    (λ status text is. judged texts.litmus.items texts.certificate.items (option_map (λ text. text.items) texts.costs) status text c.in-Ok.ensures.texts is) c.tell_texts.ensures

pub returns-in-Err-clause-printed : goal.returns-in-Err-clause-printed
returns-in-Err-clause-printed g c =
    let why = c.in-Err.file.fault in
    prints_line c.file_line.result 1 (file_line why) (IsReplyToFiles (file_names_of c.args.names) (g.R.Read.remaining c.args.input.now) (g.S.FileStore.held c.args.files.now)) _ _ c.refuse.result
    (no_file why c.in-Err.ensures.err) c.file_line.ensures c.refuse.ensures
