use Rattle.litmus_text.proofs.Vocabulary.{ℕ, List, ◌++◌, ap, ◌∙◌, text_of, gaps_in, Thread, row_pieces, moved_labels, row_of}
use Rattle.litmus_text.proofs.TextsGrow.{number_more}
use Rattle.litmus_text.proofs.rows.push_rows.Goals as goal

pub loop-k-preserved : goal.loop-k-preserved
loop-k-preserved c =
    let litmus = c.args.litmus.now in
    let written : List Thread → List ℕ =
    λ threads. text_of (row_pieces (row_of litmus.names.locations (moved_labels (gaps_in litmus.program c.args.gaps.now) 0 litmus.labels) threads c.loop-k.k)) in
    let row = row_of litmus.names.locations (moved_labels (gaps_in litmus.program c.args.gaps.now) 0 litmus.labels) c.args.fenced.now.threads in
    c.in_ok-push_row.ensures
    ∙ ap (λ (threads : List Thread). c.loop-k.out.items ++ written threads) c.threads-threads.ensures.value
    ∙ ap (λ (bs : List ℕ). bs ++ text_of (row_pieces (row c.loop-k.k))) c.loop-k.invariant
    ∙ number_more row_pieces row c.args.out.now.items c.loop-k.k
