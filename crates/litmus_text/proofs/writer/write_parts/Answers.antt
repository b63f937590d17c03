use Rattle.litmus_text.proofs.Vocabulary.{ℕ, List, ◌++◌, ap, ◌∙◌, Piece, text_of, gaps_in, heading, body_pieces, ending_pieces, moved_labels, body_of, ending_of}
use Rattle.litmus_text.proofs.TextsGrow.{grown}
use Rattle.litmus_text.proofs.writer.write_parts.Goals as goal

pub returns : goal.returns
returns c =
    let litmus = c.args.litmus.now in
    let body : List Piece = body_pieces (body_of litmus.names (moved_labels (gaps_in litmus.program c.args.gaps.now) 0 litmus.labels) c.args.fenced.now) in
    let ending : List Piece = ending_pieces (ending_of litmus.names.locations litmus.observed litmus.condition) in
    c.in_ok-push_ending.ensures
    ∙ ap (λ (bs : List ℕ). bs ++ text_of ending) (c.in_ok-push_body.ensures ∙ ap (λ (bs : List ℕ). bs ++ text_of body) (c.in_ok-push_heading.ensures
    ∙ ap (λ (bs : List ℕ). bs ++ heading c.as_slice.result.now) c.new-out.ensures.items
    ∙ ap heading c.as_slice.ensures))
    ∙ grown (heading litmus.name) body ending
