use Rattle.std.proofs.Common.{◌∙◌, ◌++◌, ◌∷◌, [], ℕ, List, ap, arith, map, sym}
use Rattle.std.proofs.lemmas.List.FromFn.{map-range_with_len_more}
use Rattle.std.specs.List.{range_with_len}
use Rattle.run_views.specs.Tables.{width}
use Rattle.run_views.proofs.table.widths.Goals as goal

pub loop-column-preserved : goal.loop-column-preserved
loop-column-preserved c =
    let of_column : ℕ → ℕ = width c.args.rows.now in
    let column = c.loop-column.column in
    c.in_ok-push.ensures.items
    ∙ ap (λ (ws : List ℕ). ws ++ c.width.result ∷ []) c.loop-column.invariant
    ∙ ap (λ (w : ℕ). map of_column (range_with_len 0 column) ++ w ∷ []) c.width.ensures
    ∙ sym (map-range_with_len_more of_column 0 column column (omega arith))
