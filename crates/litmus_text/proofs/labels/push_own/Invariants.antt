use Rattle.litmus_text.proofs.Vocabulary.{◌≡◌, ◌≤◌, ◌++◌, length, map, take, text_of, gap, joined_by, label_pieces, label_names_at}
use Rattle.litmus_text.proofs.labels.push_own.Given as goal

-- the labels of the position so far, and how many they are
abbrev pub invariant-loop-label : goal.invariant-loop-label
invariant-loop-label l =
    (l.out.items ≡ l.initial.out.items ++ text_of (joined_by gap (map label_pieces (label_names_at (take l.label-index l.labels) l.position))))
    × (l.count ≡ length (label_names_at (take l.label-index l.labels) l.position)) × (l.count ≤ l.label-index)
