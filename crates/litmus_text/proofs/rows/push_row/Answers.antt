use Rattle.litmus_text.proofs.Vocabulary.{◌≡◌, arith, length, ℕ, List, ◌++◌, map, codes, ap, ◌∙◌, range_with_len, text_of, gaps_in, bar, cell_pieces, row_pieces, joined_by, row_end, moved_labels, cell_of}
use Rattle.litmus_text.proofs.TextsGrow.{between_at, item_column_more, grown}
use Rattle.litmus_text.proofs.rows.push_row.Goals as goal

pub loop-t-preserved : goal.loop-t-preserved
loop-t-preserved c =
    let t = c.loop-t.t in
    let litmus = c.args.litmus.now in
    let cell = cell_of litmus.names.locations (moved_labels (gaps_in litmus.program c.args.gaps.now) 0 litmus.labels) c.args.threads.now c.args.k in
    c.in_ok-push_cell.ensures
    ∙ ap (λ (bs : List ℕ). bs ++ text_of (cell_pieces (cell t))) (c.in_ok-push_bar.ensures ∙ ap (λ (bs : List ℕ). bs ++ between_at bar t) c.loop-t.invariant)
    ∙ item_column_more bar cell_pieces cell c.args.out.now.items t

pub returns : goal.returns
returns c =
    let litmus = c.args.litmus.now in
    let cell = cell_of litmus.names.locations (moved_labels (gaps_in litmus.program c.args.gaps.now) 0 litmus.labels) c.args.threads.now c.args.k in
    let all : c.loop-t.t ≡ length c.args.threads.now = omega arith in
    c.in_ok-extend_from_slice.ensures.items
    ∙ ap (λ (bs : List ℕ). bs ++ codes " ;\n") c.loop-t.invariant
    ∙ grown c.args.out.now.items (joined_by bar (map cell_pieces (map cell (range_with_len 0 c.loop-t.t)))) row_end
    ∙ ap (λ (n : ℕ). c.args.out.now.items ++ text_of (row_pieces (map cell (range_with_len 0 n)))) all
