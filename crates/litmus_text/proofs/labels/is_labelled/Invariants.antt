use Rattle.litmus_text.proofs.Vocabulary.{◌≡◌, drop, label_names_at}
use Rattle.litmus_text.proofs.labels.is_labelled.Given as goal

-- the labels of the position are among those that are left
abbrev pub invariant-loop-label : goal.invariant-loop-label
invariant-loop-label l = label_names_at (drop l.label-index l.labels) l.position ≡ label_names_at l.labels l.position
