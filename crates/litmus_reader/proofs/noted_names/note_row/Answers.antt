use Rattle.litmus_reader.proofs.Vocabulary.{sym, ap, ◌∙◌, fold, take, map, Cell, cell_view, TextNames, noted, cell_places, row_places}
use Rattle.litmus_reader.proofs.Rows.{noted_more}
use Rattle.litmus_reader.proofs.noted_names.note_row.Goals as goal

pub loop-thread-preserved : goal.loop-thread-preserved
loop-thread-preserved c =
    let t = c.loop-thread.thread in
    let own = c.index-row-thread.result in
    let before = fold noted c.args.names.now (row_places (map cell_view (take t c.args.row.now))) in
    c.in_ok-note_cell.ensures
    ∙ ap (λ (names : TextNames). fold noted names (cell_places t (cell_view own))) c.loop-thread.invariant
    ∙ ap (λ (cell : Cell). fold noted before (cell_places t (cell_view cell))) c.index-row-thread.is
    ∙ sym (noted_more c.args.names.now c.args.row.now t own c.loop-thread-test.true)
