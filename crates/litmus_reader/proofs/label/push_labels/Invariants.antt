use Rattle.litmus_reader.proofs.Vocabulary.{◌≡◌, ◌++◌, map, take}
use Rattle.litmus_reader.proofs.label.push_labels.Given as goal

-- the labels so far are added
abbrev pub invariant-loop-name : goal.invariant-loop-name
invariant-loop-name l = l.labels.items ≡ l.initial.labels.items ++ map (λ name. record { name = name.now; position = l.position }) (take l.name-index l.names)
