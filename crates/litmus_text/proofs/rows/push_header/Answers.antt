use Rattle.litmus_text.proofs.Vocabulary.{◌≡◌, arith, ℕ, List, ◌++◌, map, codes, ap, ◌∙◌, range_with_len, text_of, bar, column_pieces, header_pieces, joined_by, row_end}
use Rattle.litmus_text.proofs.TextsGrow.{between_at, number_column_more, grown}
use Rattle.litmus_text.proofs.rows.push_header.Goals as goal

pub loop-t-preserved : goal.loop-t-preserved
loop-t-preserved c =
    let t = c.loop-t.t in
    c.in_ok-push_column.ensures
    ∙ ap (λ (bs : List ℕ). bs ++ text_of (column_pieces t)) (c.in_ok-push_bar.ensures ∙ ap (λ (bs : List ℕ). bs ++ between_at bar t) c.loop-t.invariant)
    ∙ number_column_more bar column_pieces c.args.out.now.items t

pub returns : goal.returns
returns c =
    let all : c.loop-t.t ≡ c.args.threads = omega arith in
    c.in_ok-extend_from_slice.ensures.items
    ∙ ap (λ (bs : List ℕ). bs ++ codes " ;\n") c.loop-t.invariant
    ∙ grown c.args.out.now.items (joined_by bar (map column_pieces (range_with_len 0 c.loop-t.t))) row_end
    ∙ ap (λ (n : ℕ). c.args.out.now.items ++ text_of (header_pieces n)) all
