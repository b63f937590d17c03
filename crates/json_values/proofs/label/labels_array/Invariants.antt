use Rattle.json_values.proofs.Vocabulary.{◌≡◌, map, take, quoted, spelling}
use Rattle.json_values.proofs.label.labels_array.Given as goal

-- the labels so far
abbrev pub invariant-loop-label : goal.invariant-loop-label
invariant-loop-label l = l.array ≡ map (λ label. quoted (spelling label)) (take l.label-index l.labels)
