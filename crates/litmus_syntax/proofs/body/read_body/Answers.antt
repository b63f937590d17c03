use Rattle.litmus_syntax.proofs.Vocabulary.{map, toks, entry_view, row_view}
use Rattle.litmus_syntax.proofs.{Options.handed_on, BodyLaws.body_is_read, BodyLaws.no_entries, BodyLaws.no_header, BodyLaws.one_missing, BodyLaws.no_rows}
use Rattle.litmus_syntax.proofs.body.read_body.Goals as goal

pub returns-in_err-entries : goal.returns-in_err-entries
returns-in_err-entries c = rw (handed_on c.from_residual.result c.from_residual.ensures.1) (no_entries (toks c.args.tokens.now) c.in_err-entries.field-0.0 c.in_err-entries.ensures)

pub returns-in_err-threads : goal.returns-in_err-threads
returns-in_err-threads c =
    rw (handed_on c.from_residual-in_err-threads.result c.from_residual-in_err-threads.ensures.1)
    (no_header (toks c.args.tokens.now) (toks c.in_ok-entries.rest.now) (map entry_view c.in_ok-entries.entries.items) c.in_err-threads.field-0.0 c.in_ok-entries.ensures c.in_err-threads.ensures)

pub returns-in-Some : goal.returns-in-Some
returns-in-Some c =
    one_missing (toks c.args.tokens.now) (toks c.in_ok-entries.rest.now) (toks c.in_ok-threads.rest.now) (map entry_view c.in_ok-entries.entries.items) c.in_ok-threads.threads c.in_ok-entries.ensures c.in_ok-threads.ensures
    (rw c.as_slice.ensures.value at c.in-Some.ensures.some)

pub returns-in_err-rows : goal.returns-in_err-rows
returns-in_err-rows c =
    rw (handed_on c.from_residual-in_err-rows.result c.from_residual-in_err-rows.ensures.1)
    (no_rows (toks c.args.tokens.now) (toks c.in_ok-entries.rest.now) (toks c.in_ok-threads.rest.now) (map entry_view c.in_ok-entries.entries.items) c.in_ok-threads.threads c.in_err-rows.field-0.0 c.in_ok-entries.ensures c.in_ok-threads.ensures
    c.in_err-rows.ensures)

pub returns : goal.returns
returns c =
    body_is_read (toks c.args.tokens.now) (toks c.in_ok-entries.rest.now) (toks c.in_ok-threads.rest.now) (toks c.in_ok-rows.rest.now) (map entry_view c.in_ok-entries.entries.items) c.in_ok-threads.threads (map row_view c.in_ok-rows.rows.items)
    c.in_ok-entries.ensures c.in_ok-threads.ensures (rw c.as_slice.ensures.value at c.in_default.ensures.none) c.in_ok-rows.ensures
