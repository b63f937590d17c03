use Rattle.litmus_text.proofs.Vocabulary.{◌≡◌, ℕ, List, ◌++◌, length, map, sym, ap, ◌∙◌, subst, append-nil, text_of, gap, joined_by, label_pieces, gaps_in, IfOk}
use Rattle.litmus_text.proofs.LabelPlaces.{moved_at, moved_nowhere}
use Rattle.litmus_text.proofs.labels.push_labels.Goals as goal

pub returns-in-Some-clause-text : goal.returns-in-Some-clause-text
returns-in-Some-clause-text c =
    subst (λ (ns : List (List ℕ)). IfOk c.push_own.result (λ count. c.push_own.new.out.items ≡ c.args.out.now.items ++ text_of (joined_by gap (map label_pieces ns))))
    (moved_at (gaps_in c.args.litmus.now.program c.args.gaps.now) c.args.t c.in-Some.position c.args.place c.args.litmus.now.labels _ c.labels_of-labels.result.now c.labels_of-labels.ensures c.as_slice.ensures c.in-Some.ensures.found) c.push_own.ensures.text

pub returns-in-Some-clause-count : goal.returns-in-Some-clause-count
returns-in-Some-clause-count c =
    subst (λ (ns : List (List ℕ)). IfOk c.push_own.result (λ count. count ≡ length ns))
    (moved_at (gaps_in c.args.litmus.now.program c.args.gaps.now) c.args.t c.in-Some.position c.args.place c.args.litmus.now.labels _ c.labels_of-labels.result.now c.labels_of-labels.ensures c.as_slice.ensures c.in-Some.ensures.found) c.push_own.ensures.count

pub returns-in-None-clause-text : goal.returns-in-None-clause-text
returns-in-None-clause-text c =
    sym (ap (λ (ns : List (List ℕ)). c.args.out.now.items ++ text_of (joined_by gap (map label_pieces ns))) (moved_nowhere (gaps_in c.args.litmus.now.program c.args.gaps.now) c.args.t c.args.place c.args.litmus.now.labels c.in-None.ensures.none) ∙ append-nil c.args.out.now.items)

pub returns-in-None-clause-count : goal.returns-in-None-clause-count
returns-in-None-clause-count c = sym (ap length (moved_nowhere (gaps_in c.args.litmus.now.program c.args.gaps.now) c.args.t c.args.place c.args.litmus.now.labels c.in-None.ensures.none))
