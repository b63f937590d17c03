use Rattle.litmus_text.proofs.Vocabulary.{ℕ, List, length, sym, ap, ◌∙◌, nat_lt, gaps_in}
use Rattle.litmus_text.proofs.LabelPlaces.{moved_at, moved_nowhere}
use Rattle.litmus_text.proofs.labels.has_label.Goals as goal

pub returns-in-Some : goal.returns-in-Some
returns-in-Some c =
    c.is_labelled.ensures
    ∙ ap (λ (ns : List (List ℕ)). nat_lt 0 (length ns)) (moved_at (gaps_in c.args.litmus.now.program c.args.gaps.now) c.args.t c.in-Some.position c.args.place c.args.litmus.now.labels _ c.labels_of-labels.result.now c.labels_of-labels.ensures c.as_slice.ensures c.in-Some.ensures.found)

pub returns-in-None : goal.returns-in-None
returns-in-None c = sym (ap (λ (ns : List (List ℕ)). nat_lt 0 (length ns)) (moved_nowhere (gaps_in c.args.litmus.now.program c.args.gaps.now) c.args.t c.args.place c.args.litmus.now.labels c.in-None.ensures.none))
