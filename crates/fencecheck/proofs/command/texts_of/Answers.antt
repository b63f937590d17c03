use Rattle.fencecheck.proofs.Vocabulary.{subst, sym, file_names_of, IsFilesFault, no_certificate, no_costs}
use Rattle.fencecheck.proofs.command.texts_of.Goals as goal

pub returns-in-Err-file_bytes-clause-err : goal.returns-in-Err-file_bytes-clause-err
returns-in-Err-file_bytes-clause-err g c =
    subst (IsFilesFault (file_names_of c.args.names) (g.R.Read.remaining c.args.input.now) (g.S.FileStore.held c.args.files.now)) (sym c.unread-in-Err-file_bytes.ensures)
    (no_certificate c.in-Ok.bytes.items c.in-Ok.ensures.whole c.in-Err-file_bytes.ensures.err)

pub returns-in-Err-bytes_if_named-clause-err : goal.returns-in-Err-bytes_if_named-clause-err
returns-in-Err-bytes_if_named-clause-err g c =
    subst (IsFilesFault (file_names_of c.args.names) (g.R.Read.remaining c.args.input.now) (g.S.FileStore.held c.args.files.now)) (sym c.unread-in-Err-bytes_if_named.ensures)
    (no_costs c.in-Ok.bytes.items c.in-Ok-file_bytes.bytes.items c.in-Ok.ensures.whole c.in-Ok-file_bytes.ensures.whole c.in-Err-bytes_if_named.ensures.err)
