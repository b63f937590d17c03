use Rattle.json_values.proofs.Vocabulary.{◌≡◌, ◌++◌, map, labels_array}
use Rattle.json_values.proofs.label.runs_array.Given as goal

-- the runs so far, and those to come
abbrev pub invariant-loop-labels : goal.invariant-loop-labels
invariant-loop-labels l = l.array ++ map labels_array l.labels-iterator ≡ map labels_array l.runs
