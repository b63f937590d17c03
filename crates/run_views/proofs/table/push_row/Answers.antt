use Rattle.std.proofs.Common.{◌∙◌, ◌++◌, ℕ, List, ap, append_assoc}
use Rattle.run_views.specs.Tables.{padded}
use Rattle.litmus_text.proofs.Joined.{flat_range_more}
use Rattle.run_views.proofs.table.push_row.Goals as goal

pub loop-column-preserved : goal.loop-column-preserved
loop-column-preserved c =
    let cells : ℕ → List ℕ = padded c.args.widths.now c.args.row.now in
    let added = rw c.cell.ensures at c.in_ok-push_cell.ensures in
    added
    ∙ append_assoc c.loop-column.out.items _ _
    ∙ ap (λ (bs : List ℕ). bs ++ cells c.loop-column.column) c.loop-column.invariant
    ∙ flat_range_more cells c.args.out.now.items c.loop-column.column
