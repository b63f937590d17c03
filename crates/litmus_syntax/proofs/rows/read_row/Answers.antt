use Rattle.litmus_syntax.proofs.Vocabulary.{◌∙◌, sym, arith, map, map_push, length-map, toks, cell_view, label_view}
use Rattle.litmus_syntax.proofs.Options.{handed_on}
use Rattle.litmus_syntax.proofs.RowLaws.{first_cell, one_cell, no_first_cell, next_read, one_more_cell, no_next_read, row_ends, row_stops, row_of_another_length}
use Rattle.litmus_syntax.proofs.rows.read_row.Goals as goal

pub returns-in_err-first-clause-reads : goal.returns-in_err-first-clause-reads
returns-in_err-first-clause-reads c = rw (handed_on c.from_residual-in_err-first.result c.from_residual-in_err-first.ensures.1) (no_first_cell (toks c.args.tokens.now) c.args.threads c.in_err-first.field-0.0 c.in_err-first.ensures.reads)

pub loop-alloc-init : goal.loop-alloc-init
loop-alloc-init c = record {
  cells = rw (c.in_ok-push.ensures.items, map_push, c.in_ok-cells.ensures.items) (first_cell (cell_view c.in_ok-first.first) (toks c.args.tokens.now) (toks c.in_ok-first.rest.now) c.in_ok-first.ensures.reads);
  labels = rw (c.in_ok-push.ensures.items, map_push, c.in_ok-cells.ensures.items) (one_cell (map label_view c.args.labels.now.items) _ (cell_view c.in_ok-first.first) c.in_ok-first.ensures.labels);
  within = c.in_ok-first.ensures.no_longer;
}

pub returns-in_err-cell-clause-reads : goal.returns-in_err-cell-clause-reads
returns-in_err-cell-clause-reads c =
    rw (handed_on c.from_residual-in_err-cell.result c.from_residual-in_err-cell.ensures.1)
    (no_next_read (toks c.args.tokens.now) (map cell_view c.loop-alloc.cells.items) (toks c.loop-alloc.rest.now) c.args.threads c.in_err-cell.field-0.0 c.loop-alloc.invariant.cells (sym c.begins.ensures ∙ c.loop-alloc-test.true) c.in_err-cell.ensures.reads)

pub loop-alloc-preserved : goal.loop-alloc-preserved
loop-alloc-preserved c = record {
  cells = rw (c.in_ok-push-2.ensures.items, map_push)
      (next_read (toks c.args.tokens.now) (map cell_view c.loop-alloc.cells.items) (toks c.loop-alloc.rest.now) (cell_view c.in_ok-cell.cell) (toks c.in_ok-cell.after.now) c.loop-alloc.invariant.cells (sym c.begins.ensures ∙ c.loop-alloc-test.true)
      c.in_ok-cell.ensures.reads);
  labels = rw (c.in_ok-push-2.ensures.items, map_push)
      (one_more_cell (map label_view c.args.labels.now.items) (map label_view c.loop-alloc.labels.items) _ (map cell_view c.loop-alloc.cells.items) (cell_view c.in_ok-cell.cell) c.len.result c.loop-alloc.invariant.labels
      (omega (arith, length-map c.loop-alloc.cells.items cell_view, c.loop-alloc.cells.ok.0, c.len.ensures)) c.in_ok-cell.ensures.labels);
  within = omega (arith, c.in_ok-cell.ensures.shorter, c.loop-alloc.invariant.within);
}

pub returns-then-len-threads-clause-reads : goal.returns-then-len-threads-clause-reads
returns-then-len-threads-clause-reads c =
    row_of_another_length (toks c.args.tokens.now) (map cell_view c.loop-alloc.cells.items) (toks c.loop-alloc.rest.now) c.args.threads c.loop-alloc.invariant.cells (sym c.begins.ensures ∙ c.loop-alloc-test.false)
    (omega (arith, length-map c.loop-alloc.cells.items cell_view, c.loop-alloc.cells.ok.0, c.len-2.ensures, c.if-len-threads.true))

pub returns-in_err-end-clause-reads : goal.returns-in_err-end-clause-reads
returns-in_err-end-clause-reads c =
    rw (handed_on c.from_residual-in_err-end.result c.from_residual-in_err-end.ensures.1)
    (row_stops (toks c.args.tokens.now) (map cell_view c.loop-alloc.cells.items) (toks c.loop-alloc.rest.now) c.args.threads c.loop-alloc.invariant.cells (sym c.begins.ensures ∙ c.loop-alloc-test.false) c.in_err-end.ensures.gives)

pub returns-clause-reads : goal.returns-clause-reads
returns-clause-reads c =
    row_ends (toks c.args.tokens.now) (map cell_view c.loop-alloc.cells.items) (toks c.loop-alloc.rest.now) (toks c.in_ok-end.end.now) c.args.threads c.loop-alloc.invariant.cells (sym c.begins.ensures ∙ c.loop-alloc-test.false)
    (omega (arith, length-map c.loop-alloc.cells.items cell_view, c.loop-alloc.cells.ok.0, c.len-2.ensures, c.if-len-threads.false)) c.in_ok-end.ensures.gives
