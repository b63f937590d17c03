use Rattle.litmus_syntax.proofs.Vocabulary.{◌∙◌, sym, map, map_push, toks, row_view, label_view}
use Rattle.litmus_syntax.proofs.{Options.handed_on, RowLaws.no_row_yet, RowLaws.no_labels_yet, RowLaws.next_row, RowLaws.one_more_row, RowLaws.rows_end, RowLaws.rows_stop}
use Rattle.litmus_syntax.proofs.rows.read_row_list.Goals as goal

pub loop-alloc-init : goal.loop-alloc-init
loop-alloc-init c = record {
  rows = rw c.new-rows.ensures.items (no_row_yet c.args.threads (toks c.args.tokens.now));
  labels = rw c.new-rows.ensures.items (no_labels_yet (map label_view c.args.labels.now.items));
}

pub returns-in_err-row-clause-reads : goal.returns-in_err-row-clause-reads
returns-in_err-row-clause-reads c =
    rw (handed_on c.from_residual.result c.from_residual.ensures.1)
    (rows_stop c.args.threads (toks c.args.tokens.now) (map row_view c.loop-alloc.rows.items) (toks c.loop-alloc.rest.now) c.in_err-row.field-0.0 c.loop-alloc.invariant.rows (sym c.ends_rows.ensures ∙ c.loop-alloc-test.true) c.in_err-row.ensures.reads)

pub loop-alloc-preserved : goal.loop-alloc-preserved
loop-alloc-preserved c = record {
  rows = rw (c.in_ok-push.ensures.items, map_push)
      (next_row c.args.threads (toks c.args.tokens.now) (map row_view c.loop-alloc.rows.items) (toks c.loop-alloc.rest.now) (row_view c.in_ok-row.row) (toks c.in_ok-row.after.now) c.loop-alloc.invariant.rows (sym c.ends_rows.ensures ∙ c.loop-alloc-test.true)
      c.in_ok-row.ensures.reads);
  labels = rw (c.in_ok-push.ensures.items, map_push)
      (one_more_row (map label_view c.args.labels.now.items) (map label_view c.loop-alloc.labels.items) _ (map row_view c.loop-alloc.rows.items) (row_view c.in_ok-row.row) c.loop-alloc.invariant.labels c.in_ok-row.ensures.labels);
}

pub returns-clause-reads : goal.returns-clause-reads
returns-clause-reads c = rows_end c.args.threads (toks c.args.tokens.now) (map row_view c.loop-alloc.rows.items) (toks c.loop-alloc.rest.now) c.loop-alloc.invariant.rows (sym c.ends_rows.ensures ∙ c.loop-alloc-test.false)
