use Rattle.litmus_syntax.proofs.Vocabulary.{◌∙◌, sym, arith, map, option_map, map_push, toks, code_view, label_view}
use Rattle.litmus_syntax.proofs.{Options.handed_on, CellLaws.one_more_label, CellLaws.one_more_own, CellLaws.label_stops, CellLaws.content_stops, CellLaws.cell_is_read}
use Rattle.litmus_syntax.proofs.cell.read_cell.Goals as goal

pub returns-in_err-name-clause-reads : goal.returns-in_err-name-clause-reads
returns-in_err-name-clause-reads c =
    rw (handed_on c.from_residual.result c.from_residual.ensures.1)
    (label_stops (toks c.args.tokens.now) (map (λ name. name.now) c.loop-rest.own.items) (toks c.loop-rest.rest.now) c.loop-rest.invariant.cell (sym c.begins_label.ensures ∙ c.loop-rest-test.true) c.in_err-name.ensures.gives)

pub loop-rest-preserved : goal.loop-rest-preserved
loop-rest-preserved c = record {
  cell = rw (c.in_ok-push-2.ensures.items, map_push)
      (one_more_label (toks c.args.tokens.now) (map (λ name. name.now) c.loop-rest.own.items) (toks c.loop-rest.rest.now) c.in_ok-name.name.now (toks c.in_ok-name.after.now) c.loop-rest.invariant.cell (sym c.begins_label.ensures ∙ c.loop-rest-test.true)
      c.in_ok-name.ensures.gives);
  labels = rw (c.in_ok-push.ensures.items, c.in_ok-push-2.ensures.items, map_push, map_push)
      (one_more_own c.args.thread (map label_view c.args.labels.now.items) (map label_view c.loop-rest.labels.items) (map (λ name. name.now) c.loop-rest.own.items) c.in_ok-name.name.now c.loop-rest.invariant.labels);
  within = omega (arith, c.in_ok-name.ensures.shorter, c.loop-rest.invariant.within);
}

pub returns-in_err-code-clause-reads : goal.returns-in_err-code-clause-reads
returns-in_err-code-clause-reads c =
    rw (handed_on c.from_residual-in_err-code.result c.from_residual-in_err-code.ensures.1)
    (content_stops (toks c.args.tokens.now) (map (λ name. name.now) c.loop-rest.own.items) (toks c.loop-rest.rest.now) c.loop-rest.invariant.cell (sym c.begins_label.ensures ∙ c.loop-rest-test.false) c.in_err-code.ensures.gives)

pub returns-clause-reads : goal.returns-clause-reads
returns-clause-reads c =
    cell_is_read (toks c.args.tokens.now) (map (λ name. name.now) c.loop-rest.own.items) (toks c.loop-rest.rest.now) (option_map code_view c.in_ok-code.code) (toks c.in_ok-code.rest.now) c.loop-rest.invariant.cell
    (sym c.begins_label.ensures ∙ c.loop-rest-test.false) c.in_ok-code.ensures.gives
