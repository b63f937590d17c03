use Rattle.litmus_text.proofs.Vocabulary.{ℕ, List, ◌++◌, map, ap, ◌∙◌, Piece, text_of, Observed, observed_pieces, condition_pieces, place_named, signs_named}
use Rattle.litmus_text.proofs.TextsGrow.{grown}
use Rattle.litmus_text.proofs.writer.push_ending.Goals as goal

pub returns : goal.returns
returns c =
    let litmus = c.args.litmus.now in
    let out = c.args.out.now.items in
    let named = place_named litmus.names.locations in
    let shown : List Piece = observed_pieces (map named litmus.observed) in
    let condition : List Piece = condition_pieces litmus.condition.quantifier (signs_named litmus.names.locations litmus.condition.formula) in
    c.in_ok-push_condition.ensures
    ∙ ap (λ (bs : List ℕ). bs ++ text_of condition) (c.in_ok-push_observed.ensures ∙ ap (λ (places : List Observed). out ++ text_of (observed_pieces (map named places))) c.as_slice.ensures)
    ∙ grown out shown condition
