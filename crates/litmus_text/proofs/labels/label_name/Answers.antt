use Rattle.litmus_text.proofs.Vocabulary.{ℕ, List, [], sym, ap, ◌∙◌, slice_index_or, gaps_in}
use Rattle.litmus_text.proofs.LabelPlaces.{moved_at, moved_nowhere}
use Rattle.litmus_text.proofs.labels.label_name.Goals as goal

pub returns-in-Some : goal.returns-in-Some
returns-in-Some c =
    c.first_label.ensures
    ∙ ap (λ (ns : List (List ℕ)). slice_index_or ns 0 []) (moved_at (gaps_in c.args.litmus.now.program c.args.gaps.now) c.args.t c.in-Some.position c.args.place c.args.litmus.now.labels _ c.labels_of-labels.result.now c.labels_of-labels.ensures c.as_slice.ensures c.in-Some.ensures.found)

pub returns-in-None : goal.returns-in-None
returns-in-None c = sym (ap (λ (ns : List (List ℕ)). slice_index_or ns 0 []) (moved_nowhere (gaps_in c.args.litmus.now.program c.args.gaps.now) c.args.t c.args.place c.args.litmus.now.labels c.in-None.ensures.none))
