use Rattle.litmus_reader.proofs.Vocabulary.{◌≡◌, ℕ, ◌+◌, List, ◌++◌, map, get_or, sym, ap, ◌∙◌, arith, slice_get, Vec, Cell, cell_view, row_view, CodeLabel}
use Rattle.std.proofs.lemmas.Simd.{map-map}
use Rattle.litmus_reader.proofs.LabelRows.{behind, one_cell, no_cell}
use Rattle.litmus_reader.proofs.label.thread_labels.Goals as goal
use Rattle.litmus_reader.proofs.label.thread_labels.Goals.{in-Some+in_ok-push_labels, in_default}

pub loop-row-preserved : goal.loop-row-preserved
loop-row-preserved c =
    let rows = c.args.rows.now in
    let t = c.args.thread in
    let i = c.loop-row.row-index in
    let k = c.loop-row.position in
    let row = c.row-item.result in
    let before = c.loop-row.labels.items in
    let seen : slice_get (row_view (get_or rows i row)) t ≡ slice_get (map cell_view c.as_slice.result.now) t =
    ap (λ (r : Vec Cell). slice_get (row_view r) t) (sym c.row-item.is) ∙ ap (λ (cells : List Cell). slice_get (map cell_view cells) t) (sym c.as_slice.ensures.value) in
    elim c.match-cell_at.branch [
      | in-Some+in_ok-push_labels w ↦
          let cell = cell_view w.in-Some.cell.now in
          let names : w.push_labels.new.labels.items ≡ before ++ map (λ l. record { name = l; position = k }) cell.labels =
          w.in_ok-push_labels.ensures ∙ (λ j. before ++ map (λ name. record { name = name.now; position = k }) (w.as_slice-in-Some.ensures.value j))
          ∙ ap (λ (ls : List CodeLabel). before ++ ls) (sym (map-map (λ l. record { name = l; position = k }) (λ l. l.now) w.in-Some.cell.now.labels.items)) in
          let labels = ap (λ (v : Vec CodeLabel). v.items) w.labels-is ∙ names in
          let position = w.position-is ∙ ap (λ (n : ℕ). k + n) w.size-position.ensures.value in
          record {
            few = omega (arith, w.position-is, w.size-position.ensures.small, c.loop-row.invariant.few);
            labels = (λ j. labels j ++ behind rows t (position j) (i + 1)) ∙ one_cell rows i t k row cell before c.loop-row-test.true (seen ∙ sym w.in-Some.ensures) ∙ c.loop-row.invariant.labels;
          }
      | in_default w ↦
          let labels = ap (λ (v : Vec CodeLabel). v.items) w.labels-is in
          record {
            few = omega (arith, w.position-is, c.loop-row.invariant.few);
            labels = (λ j. labels j ++ behind rows t (w.position-is j) (i + 1)) ∙ no_cell rows i t k row before c.loop-row-test.true (seen ∙ sym w.in_default.ensures) ∙ c.loop-row.invariant.labels;
          }
    ]
